use Rattle.std.proofs.Common.{◌≡◌, ℕ, List, Option, rules, ap, ◌∙◌, Some, None}
use Rattle.eden_ids.specs.declared.content.Kind.{Kind}
use Rattle.eden_ids.specs.declared.content.Content.{Content}
use Rattle.eden_objects.proofs.Blobs.{found_blob}
use Rattle.eden_objects.proofs.FilesOf.{file_there, no_file_there}
use Rattle.eden_objects.proofs.commit.Commit.file.Goals as goal

abbrev file_of : Kind → List ℕ → Option Content
file_of kind bytes = Some (record { kind = kind; bytes = bytes })

seen : (kind : Kind) {a b : List ℕ} → a ≡ b → file_of kind a ≡ file_of kind b
seen kind is = ap (file_of kind) is

pub returns-in-None : goal.returns-in-None
returns-in-None g c =
    let is : c.self.inside.tree ≡ None = search rules in
    no_file_there c.self.inside.store.now c.self.inside.tree c.args.self.now c.args.path.now c.self.view_is is

pub returns-in-None-find_below : goal.returns-in-None-find_below
returns-in-None-find_below g c =
    let is : c.self.inside.tree ≡ Some c.in-Some.tree = search rules in
    file_there c.self.inside.store.now c.self.inside.tree c.in-Some.tree c.args.self.now c.args.path.now None c.self.view_is is c.in-None-find_below.ensures

pub returns-in-Some-find_below : goal.returns-in-Some-find_below
returns-in-Some-find_below g c =
    let is : c.self.inside.tree ≡ Some c.in-Some.tree = search rules in
    seen c.in-Some-find_below.kind c.blob_payload.ensures
    ∙ file_there c.self.inside.store.now c.self.inside.tree c.in-Some.tree c.args.self.now c.args.path.now (Some (c.in-Some-find_below.kind, c.in-Some-find_below.blob)) c.self.view_is is c.in-Some-find_below.ensures

pub blob_payload-requires : goal.blob_payload-requires
blob_payload-requires g c =
    found_blob c.self.inside.store.now c.closed_law.ensures.closed c.in-Some.tree (search rules) c.args.path.now c.in-Some-find_below.kind c.in-Some-find_below.blob c.in-Some-find_below.ensures
