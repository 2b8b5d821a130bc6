use Rattle.std.proofs.Common.{◌≡◌, ℕ, List, Option, rules, length, ap, sym, ◌∙◌, Some, None, arith}
use Rattle.std.specs.Option.{option_map}
use Rattle.eden_ids.specs.declared.id.Id.{Id}
use Rattle.eden_ids.specs.declared.content.Kind.{Kind}
use Rattle.eden_ids.specs.declared.content.Content.{Content}
use Rattle.eden_git.specs.declared.object_type.ObjectType.TheVariants.{Blob}
use Rattle.eden_git.specs.ObjectTypes.{type_text}
use Rattle.eden_objects.specs.Objects.{find, payload_of}
use Rattle.eden_objects.specs.declared.stat.Stat.{Stat}
use Rattle.eden_objects.specs.Stats.{stat_of}
use Rattle.eden_objects.proofs.Blobs.{found_blob}
use Rattle.eden_objects.proofs.CommitTexts.{found_small}
use Rattle.eden_objects.proofs.FilesOf.{file_there, no_file_there}
use Rattle.eden_objects.proofs.Naming.{blob_id}
use Rattle.eden_objects.proofs.commit.Commit.stat.Goals as goal

abbrev stat_at : Kind → List ℕ → Id → Option Stat
stat_at kind bytes id = Some (record { kind = kind; length = length bytes; id = id })

abbrev file_of : Kind → List ℕ → Option Content
file_of kind bytes = Some (record { kind = kind; bytes = bytes })

-- a blob's id is what the naming gives its bytes
seen : (name : List ℕ → List ℕ → Id) (kind : Kind) (id : Id) {a b : List ℕ} → a ≡ b → name (type_text Blob) b ≡ id → stat_at kind a id ≡ option_map (stat_of name) (file_of kind b)
seen name kind id {b = b} is named = ap (λ bytes. stat_at kind bytes id) is ∙ ap (stat_at kind b) (sym named)

pub returns-in-None : goal.returns-in-None
returns-in-None g c =
    let is : c.self.inside.tree ≡ None = search rules in
    ap (option_map (stat_of g.N.Naming.id)) (no_file_there c.self.inside.store.now c.self.inside.tree c.args.self.now c.args.path.now c.self.view_is is)

pub returns-in-None-find_below : goal.returns-in-None-find_below
returns-in-None-find_below g c =
    let is : c.self.inside.tree ≡ Some c.in-Some.tree = search rules in
    ap (option_map (stat_of g.N.Naming.id))
    (file_there c.self.inside.store.now c.self.inside.tree c.in-Some.tree c.args.self.now c.args.path.now None c.self.view_is is c.in-None-find_below.ensures)

pub blob_payload-requires : goal.blob_payload-requires
blob_payload-requires g c =
    found_blob c.self.inside.store.now c.closed_law.ensures.closed c.in-Some.tree (search rules) c.args.path.now c.in-Some-find_below.kind c.in-Some-find_below.id c.in-Some-find_below.ensures

pub overflow_cast-result : goal.overflow_cast-result
overflow_cast-result g c =
    let small = (found_small c.self.inside.store.now c.closed_law.ensures.small c.in-Some-find_below.id).0 in
    let same : length c.as_slice.result.now ≡ length (payload_of (find c.in-Some-find_below.id c.self.inside.store.now)) =
    ap length (c.as_slice.ensures ∙ c.blob_payload.ensures) in
    omega (arith, small, same)

pub returns-in-Some-find_below : goal.returns-in-Some-find_below
returns-in-Some-find_below g c =
    let held = c.self.inside.store.now in
    let kind = c.in-Some-find_below.kind in
    let id = c.in-Some-find_below.id in
    let is : c.self.inside.tree ≡ Some c.in-Some.tree = search rules in
    let blob = found_blob held c.closed_law.ensures.closed c.in-Some.tree (search rules) c.args.path.now kind id c.in-Some-find_below.ensures in
    seen g.N.Naming.id kind id (c.as_slice.ensures ∙ c.blob_payload.ensures) (blob_id g.N.Naming.id held c.closed_law.ensures.named id blob)
    ∙ ap (option_map (stat_of g.N.Naming.id))
    (file_there held c.self.inside.tree c.in-Some.tree c.args.self.now c.args.path.now (Some (kind, id)) c.self.view_is is c.in-Some-find_below.ensures)
