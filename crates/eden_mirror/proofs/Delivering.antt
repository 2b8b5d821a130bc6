-- What is made of a list that counts.
use Rattle.std.proofs.Common.{◌≡◌, ℕ, ◌==◌, true, false, ◌&&◌, nat_le, List, [], ◌∷◌, ◌++◌, Option, Some, None, is_none, refl, sym, ap, ◌∙◌}
use Rattle.eden_ids.specs.FileMaps.{FileMap}
use Rattle.eden_globs.specs.Filters.{Patterns}
use Rattle.eden_history.specs.declared.mark.Marked.{Marked}
use Rattle.eden_history.specs.declared.position.Position.{Position}
use Rattle.eden_messages.specs.declared.message.Query.{Query}
use Rattle.eden_messages.specs.declared.message.Reply.TheVariants.{ChangesAre, ListIs}
use Rattle.eden_messages.specs.Mirrors.{MirrorState, Round, counts, delivered, delivered_in, distinct, gathers, is_among, list_request, listed_below, listed_files, same_query, taken_if, without}
use Rattle.eden_messages.specs.Mirrors.Round.{Asked, Gathering}
use Rattle.eden_messages.specs.Spells.{paths_of}

-- what is gathered does not look at the round before
gathers_any : (m : MirrorState) (round : Round) (query : Query) (target : Position) (paths prefixes : List (List ℕ))
    → gathers (record m { round = round }) query target paths prefixes ≡ gathers m query target paths prefixes
gathers_any m round query target [] [] = refl
gathers_any m round query target [] (prefix ∷ prefixes) = refl
gathers_any m round query target (path ∷ paths) prefixes = refl

pub changes_delivered : (m : MirrorState) (asked : Query) (place : Option Position) (patterns : Patterns) (query : Query) (target : Position) (marked : List Marked) (moved : List (List ℕ))
    → m.round ≡ Asked (list_request asked place patterns) → is_none place ≡ false → same_query query asked ≡ true
    → gathers m asked target (distinct (paths_of marked)) (distinct moved) ≡ delivered m (ChangesAre query target marked moved)
unfolding delivered
changes_delivered m asked None patterns query target marked moved e placed same = cc
changes_delivered m asked (Some since) patterns query target marked moved e placed same =
    sym (ap (λ r. delivered_in m r (ChangesAre query target marked moved)) e
    ∙ ap (λ b. taken_if b m (gathers m asked target (distinct (paths_of marked)) (distinct moved))) same)

pub list_delivered : (m : MirrorState) (asked : Query) (target : Position) (awaited prefixes : List (List ℕ)) (query : Query) (position : Position) (prefix : List ℕ) (paths : List (List ℕ))
    → m.round ≡ Gathering asked target awaited prefixes
    → (same_query query asked && position.generation == target.generation && nat_le target.sequence position.sequence) ≡ true → is_among prefix prefixes ≡ true
    → (files : FileMap) (now left : List (List ℕ)) → files ≡ listed_files m.files prefix paths → now ≡ distinct (awaited ++ paths) → left ≡ without prefix prefixes
    → gathers (record m { files = files; round = Gathering asked target now left }) asked target now left ≡ delivered m (ListIs query position prefix paths)
unfolding delivered
list_delivered m asked target awaited prefixes query position prefix paths e of_round among files now left f n l =
    let d : counts asked target prefixes query position prefix ≡ true = ap (λ b. b && is_among prefix prefixes) of_round ∙ among in
    gathers_any (record m { files = files }) (Gathering asked target now left) asked target now left
    ∙ ap (λ g. gathers (record m { files = g }) asked target now left) f
    ∙ ap (λ ps. gathers (record m { files = listed_files m.files prefix paths }) asked target ps left) n
    ∙ ap (λ ps. gathers (record m { files = listed_files m.files prefix paths }) asked target (distinct (awaited ++ paths)) ps) l
    ∙ sym (ap (λ r. delivered_in m r (ListIs query position prefix paths)) e
    ∙ ap (λ b. taken_if b m (listed_below m asked target awaited prefixes prefix paths)) d)
