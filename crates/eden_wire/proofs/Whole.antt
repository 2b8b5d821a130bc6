-- A body, a file and a cause are read by a byte in front, as the decoder reads them.
use Rattle.std.proofs.Common.{◌≡◌, ℕ, Bool, true, false, not, ◌||◌, cond, ltb, eqb, List, [], ◌∷◌, length, Some, None, Result, Ok, Err, refl, ap, ◌∙◌, arith, inl, inr, ◌⊎◌}
use Rattle.std.specs.Int.{w64}
use Rattle.std.proofs.lemmas.Bool.Decides.{nat_tests}
use Rattle.eden_ids.specs.declared.content.Kind.TheVariants.{Plain, Exec, Link}
use Rattle.eden_messages.specs.declared.message.Cause.{Cause}
use Rattle.eden_messages.specs.declared.message.Cause.TheVariants as causes
use Rattle.eden_messages.specs.declared.message.Request.TheVariants.{Basis, Poll, Fetch, List as Below}
use Rattle.eden_messages.specs.declared.message.Reply.TheVariants.{BasisIs, ChangesAre, ContentIs, Refused, ListIs}
use Rattle.eden_messages.specs.Spells.{kind_byte}
use Rattle.eden_wire.specs.declared.fault.DecodeFault.{DecodeFault}
use Rattle.eden_wire.specs.declared.fault.DecodeFault.TheVariants.{TooLarge, BadTag, BadField, Version}
use Rattle.eden_wire.specs.Formats.{◌>>=◌, Cases, Format, byte_at, byte, number_at, find, then_by, ◌▹◌, as_type, versioned, tagged, optional, option_of}
use Rattle.eden_wire.specs.Messages.{query, position, path, filter, excluded, paths_within, marked_paths, file_bytes, kinds, content_of, content, cause_of, cause, filtered_of, filtered_cases, excepting, request_of, request_parts, request_cases, reply_of, reply_parts, reply_cases}
use Rattle.eden_wire.specs.Reading.{ended, read_to_end, read_whole, read_request, read_reply, tag_at}
use Rattle.eden_wire.specs.Stats.{stat}
use Rattle.eden_wire.specs.internal.Steps.{cause_by}

-- ---- bodies

abbrev pub wrapped : {A B : Type 0} → (A → B) → A × List ℕ → Result (B × List ℕ) DecodeFault
wrapped wrap x = Ok (wrap x.0, x.1)

abbrev pub end : {B M : Type 0} → (B → M) → B × List ℕ → Result M DecodeFault
end to x = ended (to x.0) x.1

-- the value of a case becomes the message, and it is checked that the body ends
case_end : {A B M : Type 0} (r : Result (A × List ℕ) DecodeFault) (wrap : A → B) (to : B → M)
    → (r >>= wrapped wrap) >>= end to ≡ r >>= end (λ x. to (wrap x))
case_end (Ok x) wrap to = refl
case_end (Err fault) wrap to = refl

pub chosen_end : {A B M : Type 0} (b : Bool) (r : Result (A × List ℕ) DecodeFault) (others : Result (B × List ℕ) DecodeFault) (to : A ⊎ B → M)
    → cond b (r >>= wrapped inl) (others >>= wrapped inr) >>= end to ≡ cond b (r >>= end (λ x. to (inl x))) (others >>= end (λ y. to (inr y)))
chosen_end true r others to = case_end r inl to
chosen_end false r others to = case_end others inr to

versioned_by : {B M : Type 0} (r : Result (ℕ × List ℕ) DecodeFault) (k : ℕ × List ℕ → Result (B × List ℕ) DecodeFault) (to : B → M)
    → (r >>= λ v. cond (eqb v.0 2) (byte_at v.1 >>= k) (Err Version)) >>= end to ≡ (r >>= λ v. cond (eqb v.0 2) (byte_at v.1) (Err Version)) >>= (λ t. k t >>= end to)
versioned_by {B} {M} (Ok v) k to = by (eqb v.0 2) (byte_at v.1)
  where
    by : (b : Bool) (tag : Result (ℕ × List ℕ) DecodeFault) → cond b (tag >>= k) (Err Version) >>= end to ≡ cond b tag (Err Version) >>= (λ t. k t >>= end to)
    by true (Ok t) = refl
    by true (Err fault) = refl
    by false tag = refl
versioned_by (Err fault) k to = refl

whole_by : {B M : Type 0} (big : Bool) (r : Result (ℕ × List ℕ) DecodeFault) (k : ℕ × List ℕ → Result (B × List ℕ) DecodeFault) (to : B → M)
    → cond big (Err TooLarge) (((r >>= λ v. cond (eqb v.0 2) (byte_at v.1 >>= k) (Err Version)) >>= wrapped to) >>= end (λ m. m))
    ≡ cond big (Err TooLarge) (r >>= λ v. cond (eqb v.0 2) (byte_at v.1) (Err Version)) >>= (λ t. k t >>= end to)
whole_by true r k to = refl
whole_by false r k to = case_end (r >>= λ v. cond (eqb v.0 2) (byte_at v.1 >>= k) (Err Version)) to (λ m. m) ∙ versioned_by r k to

-- a message by its tag
pub message_whole : {B M : Type 0} (cases : Cases B) (to : B → M) (from : M → B) (body : List ℕ)
    → read_whole (as_type (versioned (tagged cases)) to from) body ≡ tag_at body >>= (λ t. cases.read t.0 t.1 >>= end to)
unfolding tag_at
message_whole cases to from body = whole_by (ltb 16777216 (length body)) (byte_at body) (λ t. cases.read t.0 t.1) to

pub along_tag : {M : Type 0} (r : Result (ℕ × List ℕ) DecodeFault) (f g : ℕ × List ℕ → Result M DecodeFault) → ((t : ℕ × List ℕ) → f t ≡ g t) → r >>= f ≡ r >>= g
along_tag (Ok t) f g same = same t
along_tag (Err fault) f g same = refl

pub request_whole : (body : List ℕ) → read_request body ≡ tag_at body >>= (λ t.
    cond (eqb t.0 1) (read_to_end (query ▹ filter) (λ x. Basis x.0 x.1) t.1) (
    cond (eqb t.0 2) (read_to_end (query ▹ position ▹ filter) (λ x. Poll x.0 x.1.0 x.1.1) t.1) (
    cond (eqb t.0 3) (read_to_end (query ▹ path) (λ x. Fetch x.0 x.1) t.1) (
    cond (eqb t.0 4) (read_to_end (query ▹ path ▹ filter) (λ x. Below x.0 x.1.0 x.1.1) t.1) (
    cond (eqb t.0 7) (read_to_end (excluded ▹ versioned (tagged filtered_cases)) (λ x. excepting x.0 (filtered_of x.1)) t.1) (Err BadTag))))))
unfolding read_request
request_whole body = message_whole request_cases request_of request_parts body ∙ along_tag (tag_at body) _ _ (λ t. simp chosen_end)

pub filtered_whole : (bytes : List ℕ) → read_to_end (versioned (tagged filtered_cases)) filtered_of bytes ≡ (versioned byte).read bytes >>= (λ t.
    cond (eqb t.0 1) (read_to_end (query ▹ filter) (λ x. Basis x.0 x.1) t.1) (
    cond (eqb t.0 2) (read_to_end (query ▹ position ▹ filter) (λ x. Poll x.0 x.1.0 x.1.1) t.1) (
    cond (eqb t.0 4) (read_to_end (query ▹ path ▹ filter) (λ x. Below x.0 x.1.0 x.1.1) t.1) (Err BadTag))))
filtered_whole bytes = versioned_by (byte_at bytes) (λ t. filtered_cases.read t.0 t.1) filtered_of ∙ along_tag ((versioned byte).read bytes) _ _ (λ t. simp chosen_end)

pub reply_whole : (body : List ℕ) → read_reply body ≡ tag_at body >>= (λ t.
    cond (eqb t.0 129) (read_to_end (query ▹ position ▹ paths_within None) (λ x. BasisIs x.0 x.1.0 x.1.1) t.1) (
    cond (eqb t.0 130) (read_to_end (query ▹ position ▹ marked_paths ▹ paths_within None) (λ x. ChangesAre x.0 x.1.0 x.1.1.0 x.1.1.1) t.1) (
    cond (eqb t.0 131) (read_to_end (query ▹ position ▹ path ▹ content) (λ x. ContentIs x.0 x.1.0 x.1.1.0 x.1.1.1) t.1) (
    cond (eqb t.0 132) (read_to_end (query ▹ cause) (λ x. Refused x.0 x.1) t.1) (
    cond (eqb t.0 133) (read_to_end (query ▹ position ▹ then_by path (λ prefix. paths_within (Some prefix))) (λ x. ListIs x.0 x.1.0 x.1.1.0 x.1.1.1) t.1) (Err BadTag))))))
unfolding read_reply
reply_whole body = message_whole reply_cases reply_of reply_parts body ∙ along_tag (tag_at body) _ _ (λ t. simp chosen_end)

-- ---- files and causes

content_by : (none plain exec link : Bool) (held : Result (List ℕ × List ℕ) DecodeFault) (rest : List ℕ)
    → cond none (Ok (inl tt, rest)) (
    cond plain (held >>= wrapped inl) (cond exec (held >>= wrapped inl) (cond link (held >>= wrapped inl) (Err BadField) >>= wrapped inr) >>= wrapped inr) >>= wrapped inr
    ) >>= wrapped content_of
    ≡ cond none (Ok (None, rest)) (
    cond plain (Ok Plain) (cond exec (Ok Exec) (cond link (Ok Link) (Err BadField))) >>= λ kind. held >>= λ x. Ok (Some (record { kind = kind; bytes = x.0 }), x.1)
    )
content_by true plain exec link held rest = refl
content_by false true exec link (Ok x) rest = refl
content_by false true exec link (Err fault) rest = refl
content_by false false true link (Ok x) rest = refl
content_by false false true link (Err fault) rest = refl
content_by false false false true (Ok x) rest = refl
content_by false false false true (Err fault) rest = refl
content_by false false false false held rest = refl

pub content_whole : (bytes : List ℕ) → content.read bytes ≡ byte_at bytes >>= λ b.
    cond (eqb b.0 0) (Ok (None, b.1)) (find kind_byte kinds b.0 >>= λ kind. file_bytes.read b.1 >>= λ x. Ok (Some (record { kind = kind; bytes = x.0 }), x.1))
content_whole [] = refl
content_whole (b ∷ bytes) = content_by (eqb b 0) (eqb b 1) (eqb b 2) (eqb b 3) (file_bytes.read bytes) bytes

option_by : {A : Type 0} (none some : Bool) (held : Result (A × List ℕ) DecodeFault) (rest : List ℕ)
    → cond none (Ok (inl tt, rest)) (cond some (held >>= wrapped inl) (Err BadField) >>= wrapped inr) >>= wrapped option_of
    ≡ cond none (Ok (None, rest)) (cond some (held >>= λ x. Ok (Some x.0, x.1)) (Err BadField))
option_by true some held rest = refl
option_by false true (Ok x) rest = refl
option_by false true (Err fault) rest = refl
option_by false false held rest = refl

optional_whole : {A : Type 0} (format : Format A) (bytes : List ℕ)
    → (optional format).read bytes ≡ byte_at bytes >>= λ b. cond (eqb b.0 0) (Ok (None, b.1)) (cond (eqb b.0 1) (format.read b.1 >>= λ x. Ok (Some x.0, x.1)) (Err BadField))
optional_whole format [] = refl
optional_whole format (b ∷ bytes) = option_by (eqb b 0) (eqb b 1) (format.read bytes) bytes

pub found_whole : (bytes : List ℕ)
    → (optional stat).read bytes ≡ byte_at bytes >>= λ b. cond (eqb b.0 0) (Ok (None, b.1)) (cond (eqb b.0 1) (stat.read b.1 >>= λ x. Ok (Some x.0, x.1)) (Err BadField))
found_whole bytes = optional_whole stat bytes

pub prefix_whole : (bytes : List ℕ)
    → (optional path).read bytes ≡ byte_at bytes >>= λ b. cond (eqb b.0 0) (Ok (None, b.1)) (cond (eqb b.0 1) (path.read b.1 >>= λ x. Ok (Some x.0, x.1)) (Err BadField))
prefix_whole bytes = optional_whole path bytes

abbrev caused : ℕ × List ℕ → Result Cause DecodeFault → Result (Cause × List ℕ) DecodeFault
caused value made = made >>= λ c. Ok (c, value.1)

zero_by : (zero : Bool) (v : ℕ × List ℕ)
    → ((cond zero (Ok v) (Err BadField) >>= wrapped inl) >>= wrapped inr >>= wrapped inr >>= wrapped inr) >>= wrapped cause_of ≡ caused v (cond zero (Ok causes.TooLarge) (Err BadField))
zero_by true v = refl
zero_by false v = refl

cause_by_byte : (stale ahead truncated large : Bool) (number : Result (ℕ × List ℕ) DecodeFault)
    → cond stale (number >>= wrapped inl) (
    cond ahead (number >>= wrapped inl) (
    cond truncated (number >>= wrapped inl) (
    cond large ((number >>= λ v. cond (eqb v.0 0) (Ok v) (Err BadField)) >>= wrapped inl) (Err BadField) >>= wrapped inr
    ) >>= wrapped inr) >>= wrapped inr) >>= wrapped cause_of
    ≡ cond (stale || (ahead || (truncated || large))) number (Err BadField) >>= (λ v.
    caused v (cond stale (Ok (causes.Stale v.0)) (cond ahead (Ok (causes.Ahead v.0)) (cond truncated (Ok (causes.Truncated v.0)) (cond (eqb v.0 0) (Ok causes.TooLarge) (Err BadField))))))
cause_by_byte true ahead truncated large (Ok v) = refl
cause_by_byte true ahead truncated large (Err fault) = refl
cause_by_byte false true truncated large (Ok v) = refl
cause_by_byte false true truncated large (Err fault) = refl
cause_by_byte false false true large (Ok v) = refl
cause_by_byte false false true large (Err fault) = refl
cause_by_byte false false false true (Ok v) = zero_by (eqb v.0 0) v
cause_by_byte false false false true (Err fault) = refl
cause_by_byte false false false false number = refl

is_known : (b : ℕ) → (eqb b 1 || (eqb b 2 || (eqb b 3 || eqb b 4))) ≡ not (eqb b 0 || ltb 4 b)
is_known b = grind (arith, nat_tests)

guarded : {A : Type 0} (unknown : Bool) (r : Result A DecodeFault) → cond (not unknown) r (Err BadField) ≡ cond unknown (Err BadField) r
guarded true r = refl
guarded false r = refl

pub cause_whole : (bytes : List ℕ) → cause.read bytes ≡ byte_at bytes >>= λ b. cond (eqb b.0 0 || ltb 4 b.0) (Err BadField) (number_at w64 b.1) >>= λ v. caused v (cause_by b.0 v.0)
cause_whole [] = refl
cause_whole (b ∷ bytes) =
    let number = number_at w64 bytes in
    cause_by_byte (eqb b 1) (eqb b 2) (eqb b 3) (eqb b 4) number
    ∙ ap (λ r. r >>= λ v. caused v (cause_by b v.0)) (rw (is_known b) (guarded (eqb b 0 || ltb 4 b) number))
