-- Which words are numbers.
use Rattle.std.specs.Prelude.{ℕ, List, ◌^◌, ◌&&◌, Option, Some, None, nat_eq, nat_lt, if◌then◌else◌}
use Rattle.std.specs.Prelude.{decimal}
use Rattle.std.specs.Cmp.Lexicographic.{pointwise}
use Rattle.std.specs.Str.Parse.{digits_value}

-- the number below 2 ^ 64 whose decimal text is the word, if there is one
unfoldable pub number_of : List ℕ → Option ℕ
number_of word =
    let number = digits_value 10 word in
    if nat_lt number (2 ^ 64) && pointwise nat_eq (decimal number) word then Some number else None
