-- The payload of the first entries of a tree.
use Rattle.std.proofs.Common.{◌≡◌, ℕ, ◌+◌, ◌<◌, List, [], ◌∷◌, ◌++◌, length, take, drop, get_or, Option, Some, None, refl, sym, ap, ◌∙◌, append_assoc, append-nil}
use Rattle.std.proofs.lemmas.List.{take_more, take-append-drop}
use Rattle.eden_ids.specs.declared.id.Id.{Id}
use Rattle.eden_script.specs.declared.command.TreeEntry.{TreeEntry}
use Rattle.eden_script.specs.declared.label.Binding.{Binding}
use Rattle.eden_script.specs.Labels.{bound}
use Rattle.eden_script.specs.Sessions.{entry_bytes, joined, tree_payload}

joined-assoc : (a b c : Option (List ℕ)) → joined a (joined b c) ≡ joined (joined a b) c
joined-assoc None b c = refl
joined-assoc (Some a) None c = refl
joined-assoc (Some a) (Some b) None = refl
joined-assoc (Some a) (Some b) (Some c) = ap Some (sym (append_assoc a b c))

nothing-joined : (a : Option (List ℕ)) → a ≡ joined (Some []) a
nothing-joined None = refl
nothing-joined (Some a) = refl

payload-append : (bindings : List Binding) (xs ys : List TreeEntry)
    → tree_payload bindings (xs ++ ys) ≡ joined (tree_payload bindings xs) (tree_payload bindings ys)
unfolding tree_payload
payload-append bindings [] ys = nothing-joined (tree_payload bindings ys)
payload-append bindings (x ∷ xs) ys =
    ap (joined (entry_bytes x (bound bindings x.label))) (payload-append bindings xs ys)
    ∙ joined-assoc (entry_bytes x (bound bindings x.label)) (tree_payload bindings xs) (tree_payload bindings ys)

payload-one : (bindings : List Binding) (entry : TreeEntry) → tree_payload bindings (entry ∷ []) ≡ joined (entry_bytes entry (bound bindings entry.label)) (Some [])
unfolding tree_payload
payload-one bindings entry = refl

pub payload_none : (bindings : List Binding) → tree_payload bindings [] ≡ Some []
unfolding tree_payload
payload_none bindings = refl

payload-take : (bindings : List Binding) (entries : List TreeEntry) (k : ℕ) (entry : TreeEntry) (before : List ℕ) (id : Option Id)
    → tree_payload bindings (take k entries) ≡ Some before → k < length entries → entry ≡ get_or entries k entry → bound bindings entry.label ≡ id
    → tree_payload bindings (take (k + 1) entries) ≡ joined (Some before) (joined (entry_bytes entry id) (Some []))
payload-take bindings entries k entry before id so_far lt is found =
    ap (tree_payload bindings) (take_more entries k entry lt ∙ ap (λ e. take k entries ++ e ∷ []) (sym is))
    ∙ payload-append bindings (take k entries) (entry ∷ [])
    ∙ (λ i. joined (so_far i) (payload-one bindings entry i))
    ∙ ap (λ found. joined (Some before) (joined (entry_bytes entry found) (Some []))) found

-- one more entry
pub payload_more : (bindings : List Binding) (entries : List TreeEntry) (k : ℕ) (entry : TreeEntry) (before after : List ℕ) (id : Id)
    → tree_payload bindings (take k entries) ≡ Some before → k < length entries → entry ≡ get_or entries k entry → bound bindings entry.label ≡ Some id
    → after ≡ before ++ (entry.mode ++ 32 ∷ entry.name ++ 0 ∷ id.0)
    → tree_payload bindings (take (k + 1) entries) ≡ Some after
payload_more bindings entries k entry before after id so_far lt is found grown =
    payload-take bindings entries k entry before (Some id) so_far lt is found
    ∙ ap (λ bytes. Some (before ++ bytes)) (append-nil _) ∙ ap Some (sym grown)

-- a label that is not bound
pub payload_missing : (bindings : List Binding) (entries : List TreeEntry) (k : ℕ) (entry : TreeEntry) (before : List ℕ)
    → tree_payload bindings (take k entries) ≡ Some before → k < length entries → entry ≡ get_or entries k entry → bound bindings entry.label ≡ None
    → tree_payload bindings entries ≡ None
payload_missing bindings entries k entry before so_far lt is missing =
    sym (ap (tree_payload bindings) (take-append-drop (k + 1) entries))
    ∙ payload-append bindings (take (k + 1) entries) (drop (k + 1) entries)
    ∙ ap (λ o. joined o (tree_payload bindings (drop (k + 1) entries))) (payload-take bindings entries k entry before None so_far lt is missing)
