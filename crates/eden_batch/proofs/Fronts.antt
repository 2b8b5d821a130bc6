-- What is at the front of a stream of objects, by its header.
use Rattle.std.proofs.Common.{◌≡◌, ◌≢◌, ℕ, suc, ◌+◌, ◌-◌, ◌<◌, ◌≤◌, List, [], ◌∷◌, ◌++◌, length, get_or, take, drop, replicate, sym, ap, ◌∙◌, arith, append_assoc, length-append}
use Rattle.std.specs.List.{concat}
use Rattle.std.proofs.Math.Seq.{drop-cons}
use Rattle.std.proofs.lemmas.List.{take_at, take-append-drop, length-take, length-replicate, append-nil}
use Rattle.std.proofs.lemmas.List.Folds.{concat-append}
use Rattle.eden_objects.specs.Objects.{Held}
use Rattle.eden_stream.specs.Grammars.{HasItem}
use Rattle.eden_batch.specs.Batches.{HasNoHeader, HasPartOfHeader, HasPartOfObject, IsObject, LacksLineFeed, header}
use Rattle.eden_batch.specs.internal.Fields.{IsHeader, header_field}
use Rattle.eden_batch.specs.internal.Grammar.{IsPrinted, object_grammar}
use Rattle.eden_batch.specs.declared.header.Header.{Header}

pub part_of_header : (bytes : List ℕ) (h : Header) (more : List ℕ) → IsHeader h → 0 < length more → bytes ++ more ≡ header_field h → HasPartOfHeader bytes
part_of_header bytes h more is some e = record { id = h.id; object_type = h.object_type; size = h.size; more = more; is_id = is.0; fits = is.1; some = some; cut = e }

pub no_header : (bytes : List ℕ) → ((h : Header) (rest more : List ℕ) → IsHeader h → bytes ++ rest ≡ header_field h ++ more → ⊥) → HasNoHeader bytes
no_header bytes bad id object_type size rest more is fits e = bad (record { id = id; object_type = object_type; size = size }) rest more (is, fits) e

-- the object of a header, where these are its bytes
object_of : Header → List ℕ → Held
object_of h payload = record { id = h.id; object_type = h.object_type; payload = payload }

sized : (h : Header) (payload : List ℕ) → length payload ≡ h.size → header_field h ≡ header h.id h.object_type (length payload)
sized h payload e = ap (header h.id h.object_type) (sym e)

module _ (bytes behind : List ℕ) (h : Header) (is : IsHeader h) (small : h.size ≤ 8388608) (cut : bytes ≡ header_field h ++ behind) where
  pub part_of_object : length behind ≤ h.size → HasPartOfObject bytes
  unfolding object_of
  part_of_object short =
      let zeros = replicate (h.size - length behind) 0 in
      let payload = behind ++ zeros in
      let long : length payload ≡ h.size = omega (arith, length-append behind zeros, length-replicate {A = ℕ} (h.size - length behind) 0) in
      record {
        object = object_of h payload;
        more = zeros ++ 10 ∷ [];
        is_object = record { id = is.0; few = omega (arith, long, small) };
        some = omega (arith, length-append zeros (10 ∷ []));
        cut =
            ap (λ l. l ++ (zeros ++ 10 ∷ [])) cut ∙ append_assoc (header_field h) behind (zeros ++ 10 ∷ [])
            ∙ ap (λ l. header_field h ++ l) (sym (append_assoc behind zeros (10 ∷ []))) ∙ ap (λ l. l ++ (payload ++ 10 ∷ [])) (sized h payload long);
      }

  module _ (there : h.size < length behind) where
    payload : List ℕ
    payload = take h.size behind

    long : length payload ≡ h.size
    unfolding payload
    long = omega (arith, length-take h.size behind)

    is_object : IsObject (object_of h payload)
    unfolding object_of
    is_object = record { id = is.0; few = omega (arith, long, small) }

    parted : behind ≡ payload ++ get_or behind h.size 0 ∷ drop (suc h.size) behind
    unfolding payload
    parted = sym (take-append-drop h.size behind) ∙ ap (λ l. take h.size behind ++ l) (drop-cons behind h.size 0 there)

    pub lacks_line_feed : (byte : ℕ) → byte ≡ get_or behind h.size 0 → byte ≢ 10 → LacksLineFeed bytes
    unfolding object_of
    lacks_line_feed byte at other = record {
      object = object_of h payload;
      byte = byte;
      more = drop (suc h.size) behind;
      is_object = is_object;
      other = other;
      cut =
          cut ∙ ap (λ l. header_field h ++ l) (parted ∙ ap (λ b. payload ++ b ∷ drop (suc h.size) behind) (sym at))
          ∙ ap (λ l. l ++ (payload ++ byte ∷ drop (suc h.size) behind)) (sized h payload long);
    }

    pub whole_object : 10 ≡ get_or behind h.size 0 → (whole : ℕ) → whole ≡ length bytes - length behind + h.size + 1
        → (0 < whole) × (whole ≤ length bytes) × IsPrinted (take whole bytes)
    unfolding object_of
    whole_object at whole is_whole =
        let text = header_field h ++ (payload ++ 10 ∷ []) in
        let left = drop (suc h.size) behind in
        let bytes_are : bytes ≡ text ++ left =
        cut ∙ ap (λ l. header_field h ++ l) (parted ∙ ap (λ b. payload ++ b ∷ left) (sym at) ∙ sym (append_assoc payload (10 ∷ []) left))
        ∙ sym (append_assoc (header_field h) (payload ++ 10 ∷ []) left) in
        let total : length bytes ≡ length (header_field h) + length behind = ap length cut ∙ length-append (header_field h) behind in
        let size : length text ≡ whole =
        omega (arith, total, is_whole, length-append (header_field h) (payload ++ 10 ∷ []), length-append payload (10 ∷ []), long) in (
          omega (arith, is_whole),
          omega (arith, is_whole, total, there),
          (object_of h payload, is_object, ap (take whole) bytes_are ∙ take_at text left whole size ∙ ap (λ l. l ++ (payload ++ 10 ∷ [])) (sized h payload long)),
        )

-- an object is taken from what is held
pub has_item : (ended : _) (held : List ℕ) (whole : ℕ) → 0 < whole → whole ≤ length held → IsPrinted (take whole held) → HasItem object_grammar ended held 0 whole whole
has_item ended held whole some within printed = record {
  some = some;
  within = within;
  inside = omega arith;
  item = printed;
  takes = λ stream items cut.
      let item = take whole held in
      cut ∙ ap (λ l. concat items ++ l) (sym (take-append-drop whole held)) ∙ sym (append_assoc (concat items) item (drop whole held))
      ∙ ap (λ l. l ++ drop whole held) (ap (λ l. concat items ++ l) (sym (append-nil item)) ∙ sym (concat-append items (item ∷ [])));
}
