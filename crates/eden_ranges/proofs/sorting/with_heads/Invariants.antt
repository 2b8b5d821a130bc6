use Rattle.std.proofs.Common.{◌≡◌, map, take}
use Rattle.std.specs.List.{All}
use Rattle.eden_ranges.specs.internal.Heads.{IsHeaded}
use Rattle.eden_ranges.proofs.sorting.with_heads.Given as goal

abbrev pub invariant-loop-mention : goal.invariant-loop-mention
invariant-loop-mention l = record {
  mentions : map (λ h. h.mention) l.headed.items ≡ take l.mention-index l.mentions;
  heads : All IsHeaded l.headed.items;
}
