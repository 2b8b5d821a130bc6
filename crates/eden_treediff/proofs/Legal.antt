-- What a walk finds are paths, since those of both trees are.
use Rattle.std.proofs.Common.{◌≡◌, ℕ, ◌++◌, true, List, [], ◌∷◌, Option, Some, None, refl, sym, ap, subst, ◌∙◌}
use Rattle.eden_ids.specs.declared.id.Id.{Id}
use Rattle.eden_ids.specs.declared.content.Kind.{Kind}
use Rattle.eden_ids.specs.Paths.{IsPath}
use Rattle.eden_git.specs.Trees.{Entry, is_name, key_of}
use Rattle.eden_objects.specs.Objects.{Held}
use Rattle.eden_objects.specs.Commits.{entries_rows, tree_rows}
use Rattle.eden_objects.specs.Closed.{IsClosed}
use Rattle.eden_objects.specs.Listings.{ArePaths}
use Rattle.eden_objects.proofs.Legal.{dir_paths, file_path, later_paths, top_paths}
use Rattle.eden_treediff.specs.internal.Pairs.{Directory, Next, directory, directory_of, name_of}
use Rattle.eden_treediff.specs.internal.Walks.{IsSide, side_entries, side_rows}
use Rattle.eden_treediff.proofs.Pairs.{IsNext, IsRest, Meet, OfEntry, also_dir, dir_inside, entry_named, listed, one_name}
use Rattle.eden_treediff.proofs.Steps.{side_whole}

-- the files of these entries have paths after the bytes
abbrev pub AreLegal : List Held → List ℕ → List Entry → Type 0
AreLegal held front es = ArePaths front (entries_rows (tree_rows held) es)

pub top_legal : (held : List Held) (side : Option Id) (front : List ℕ) → IsClosed held → IsSide held side → front ≡ [] → ArePaths front (side_rows held side)
top_legal held None front closed is none = tt
top_legal held (Some tree) front closed is none = top_paths held tree front closed is none

pub legal_begins : (held : List Held) (front : List ℕ) (side : Option Id) → IsClosed held → IsSide held side → ArePaths front (side_rows held side)
    → AreLegal held front (side_entries held side)
legal_begins held front side closed is h = subst (ArePaths front) (side_whole held side closed is).0 h

pub legal_after : (held : List Held) (front : List ℕ) (all : List Entry) (o : Option Entry) (es : List Entry) → all ≡ listed o ++ es → AreLegal held front all → AreLegal held front es
legal_after held front all None es is h = subst (AreLegal held front) is h
legal_after held front all (Some e) es is h = later_paths IsPath front (tree_rows held) e es all is h

file_legal : (held : List Held) (front : List ℕ) (e : Entry) (es all : List Entry) (a b : Option Id) → all ≡ e ∷ es → directory_of e.name e.kind a b ≡ None → AreLegal held front all
    → IsPath (front ++ e.name)
file_legal held front e es all a b is file h = by e.kind refl file where
  by : (kind : Option Kind) → e.kind ≡ kind → directory_of e.name kind a b ≡ None → IsPath (front ++ e.name)
  by None kind none = absurd (cc)
  by (Some k) kind none = file_path IsPath front (tree_rows held) e es all k is kind h

-- a file that is found
pub found_legal : (held : List Held) (front : List ℕ) (es fs : List Entry) (next : Next) → IsNext es fs next → AreLegal held front es → AreLegal held front fs → directory next.0 next.1 ≡ None
    → IsPath (front ++ name_of next.0 next.1)
found_legal held front es fs next met one two file = by next.0 next.1 met.0 met.1 met.2 file where
  by : (o p : Option Entry) → es ≡ listed o ++ next.2 → fs ≡ listed p ++ next.3 → Meet o p → directory o p ≡ None → IsPath (front ++ name_of o p)
  by None None left right meet none = absurd meet
  by (Some e) None left right meet none = file_legal held front e next.2 es (Some e.id) None left none one
  by None (Some f) left right meet none = file_legal held front f next.3 fs None (Some f.id) right none two
  by (Some e) (Some f) left right meet none = file_legal held front e next.2 es (Some e.id) (Some f.id) left none one

-- a directory that is entered

abbrev pub BothLegal : List Held → List ℕ → Directory → Type 0
BothLegal held inner d = ArePaths inner (side_rows held d.1) × ArePaths inner (side_rows held d.2)

pub entered_legal : (held : List Held) (front inner : List ℕ) (es fs : List Entry) (next : Next) (d : Directory) → IsRest held es → IsRest held fs → IsNext es fs next
    → AreLegal held front es → AreLegal held front fs → directory next.0 next.1 ≡ Some d → inner ≡ front ++ d.0 ++ 47 ∷ []
    → BothLegal held inner d
entered_legal held front inner es fs next d rest others met one two is entered =
    by next.0 next.1 met.0 met.1 met.2 (entry_named held es next.0 next.2 met.0 rest) (entry_named held fs next.1 next.3 met.1 others) is where
      behind_name : (name : List ℕ) (a b : Option Id) → (name, a, b) ≡ d → inner ≡ front ++ name ++ 47 ∷ []
      behind_name name a b same = entered ∙ ap (λ (x : Directory). front ++ x.0 ++ 47 ∷ []) (sym same)

      by : (o p : Option Entry) → es ≡ listed o ++ next.2 → fs ≡ listed p ++ next.3 → Meet o p → OfEntry (λ e. is_name e.name ≡ true) o → OfEntry (λ e. is_name e.name ≡ true) p
          → directory o p ≡ Some d → BothLegal held inner d
      by None None left right meet name names some = absurd meet
      by (Some e) None left right meet name names some =
          let dir = dir_inside e.name e.kind (Some e.id) None d some in
          subst (BothLegal held inner) dir.1 (dir_paths IsPath front inner (tree_rows held) e next.2 es left dir.0 (behind_name e.name (Some e.id) None dir.1) one, tt)
      by None (Some f) left right meet name names some =
          let dir = dir_inside f.name f.kind None (Some f.id) d some in
          subst (BothLegal held inner) dir.1 (tt, dir_paths IsPath front inner (tree_rows held) f next.3 fs right dir.0 (behind_name f.name None (Some f.id) dir.1) two)
      by (Some e) (Some f) left right meet name names some =
          let dir = dir_inside e.name e.kind (Some e.id) (Some f.id) d some in
          let other : f.kind ≡ None = also_dir e.name f.name f.kind names (ap (key_of e.name) (sym dir.0) ∙ meet) in
          let same : e.name ≡ f.name = one_name e.name f.name e.kind f.kind name names meet in
          let here = behind_name e.name (Some e.id) (Some f.id) dir.1 in
          subst (BothLegal held inner) dir.1 (
            dir_paths IsPath front inner (tree_rows held) e next.2 es left dir.0 here one,
            dir_paths IsPath front inner (tree_rows held) f next.3 fs right other (here ∙ ap (λ n. front ++ n ++ 47 ∷ []) same) two,
          )
