-- The rows of a commit are those of the tree that it names.
use Rattle.std.proofs.Common.{◌≡◌, inl, inr, Bool, true, false, cond, List, [], Option, Some, None, refl, sym, ap, subst, ◌∙◌}
use Rattle.std.proofs.lemmas.Bool.{cases_Bool}
use Rattle.eden_ids.specs.declared.id.Id.{Id}
use Rattle.eden_git.specs.declared.object_type.ObjectType.TheVariants.{Commit}
use Rattle.eden_objects.specs.Objects.{Held, find, zero_id}
use Rattle.eden_git.specs.ObjectTypes.{same_type}
use Rattle.eden_ids.specs.Sameness.{same_id}
use Rattle.eden_git.specs.Commits.{tree_named}
use Rattle.eden_objects.specs.Commits.{rows_named, rows_held, commit_rows}
use Rattle.eden_objects.specs.Closed.{HasTree, IsClosed}
use Rattle.eden_objects.specs.Walks.{tree_seen}
use Rattle.eden_objects.proofs.Closed.{commit_in}
use Rattle.eden_objects.proofs.Refusals.{same_type-is}

named_if : (held : List Held) (t : Bool) (o : Option Id) → cond t (rows_named held o) None ≡ rows_named held (cond t o None)
named_if held true o = refl
named_if held false o = refl

rows_seen : (held : List Held) (o : Option Held) → rows_held held o ≡ rows_named held (tree_seen o)
rows_seen held None = refl
rows_seen held (Some h) = named_if held (same_type h.object_type Commit) (tree_named h.payload)

pub seen_rows : (held : List Held) (commit : Id) (o : Option Id) → same_id commit zero_id ≡ false → o ≡ tree_seen (find commit held) → commit_rows held commit ≡ rows_named held o
seen_rows held commit o f is =
    ap (λ b. cond b (Some []) (rows_held held (find commit held))) f ∙ rows_seen held (find commit held) ∙ ap (rows_named held) (sym is)

tree_held : (held : List Held) → IsClosed held → (commit : Id) (o : Option Held) (tree : Id) → find commit held ≡ o → Some tree ≡ tree_seen o → HasTree held tree
tree_held held closed commit None tree found is = absurd (cc)
tree_held held closed commit (Some h) tree found is = elim (cases_Bool (same_type h.object_type Commit)) [
  | inl t ↦
      let named = commit_in held closed commit h found (same_type-is h.object_type Commit t) in
      let both : Some tree ≡ Some named.0 = is ∙ ap (λ b. cond b (tree_named h.payload) None) t ∙ named.1 in
      let same : named.0 ≡ tree = cc in
      subst (HasTree held) same named.2
  | inr f ↦ let e : Some tree ≡ None = is ∙ ap (λ b. cond b (tree_named h.payload) None) f in absurd (cc)
]

pub seen_tree : (held : List Held) (commit tree : Id) → IsClosed held → Some tree ≡ tree_seen (find commit held) → HasTree held tree
seen_tree held commit tree closed is = tree_held held closed commit (find commit held) tree refl is
