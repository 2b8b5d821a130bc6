-- A body is read as what is asked exactly if it spells it.
use Rattle.std.proofs.Common.{◌≡◌, ℕ, ◌<◌, ◌≤◌, ◌^◌, true, cond, eqb, List, ◌∷◌, ◌++◌, length, Result, Ok, Err, refl, sym, ap, subst, ◌∙◌, inl, inr, arith, length-append}
use Rattle.std.specs.Prelude.{IfOk, OnOk}
use Rattle.std.specs.Int.{w32, to_be_bytes}
use Rattle.std.proofs.lemmas.Bool.{eqb-true}
use Rattle.eden_messages.specs.Spells.{IsRequest}
use Rattle.eden_stream.specs.Frames.{frame}
use Rattle.eden_wire.specs.declared.asked.Asked.{Asked}
use Rattle.eden_wire.specs.declared.fault.DecodeFault.{DecodeFault}
use Rattle.eden_wire.specs.declared.question.Question.{Question}
use Rattle.eden_wire.specs.Asked.{SpellsAsked, asked_bytes, patience_bytes, read_asked}
use Rattle.eden_wire.specs.Formats.{◌>>=◌, number_at}
use Rattle.eden_wire.specs.Reading.{Gives, tag_at}
use Rattle.eden_wire.specs.Questions.{SpellsQuestion, question_bytes, read_question, request_of}
use Rattle.eden_wire.proofs.Numbers.{IsBytes, along, bind_ok, number_again, number_takes, wide32}
use Rattle.eden_wire.proofs.TagLaws.{chosen}
use Rattle.eden_wire.proofs.BodyLaws.{HasTag, tag_again, tag_takes}
use Rattle.eden_wire.proofs.QuestionLaws.{question_asked, question_read, question_spelled}

-- a question after these milliseconds
abbrev behind : ℕ → Question → Asked
behind patience question = record { patience = patience; question = question }

-- ---- what is written is read

alone_again : (question : Question) → SpellsQuestion (question_bytes question) question → read_asked (question_bytes question) ≡ Ok (behind 0 question)
unfolding read_asked
alone_again question spells =
    let asked = question_asked question in
    let tag : tag_at (question_bytes question) ≡ Ok (asked.tag, asked.rest) =
    ap tag_at asked.parts ∙ tag_again asked.tag asked.rest (subst (λ (b : List ℕ). length b ≤ 16777216) asked.parts spells.limit) in
    rw (tag, asked.alone, question_read (question_bytes question) question spells) refl

behind_again : (patience : ℕ) (question : Question) → patience < 2 ^ 32 → length (patience_bytes patience ++ question_bytes question) ≤ 16777216
    → SpellsQuestion (question_bytes question) question → read_asked (patience_bytes patience ++ question_bytes question) ≡ Ok (behind patience question)
unfolding read_asked
behind_again patience question few limit spells =
    rw (
      tag_again 5 (to_be_bytes w32 patience ++ question_bytes question) limit,
      number_again w32 (2 ^ 32) wide32 patience (question_bytes question) few,
      question_read (question_bytes question) question spells,
    ) refl

pub asked_read : (body : List ℕ) (asked : Asked) → SpellsAsked body asked → read_asked body ≡ Ok asked
asked_read body asked spells =
    elim spells.bytes [
      | inl alone ↦
          let limit = subst (λ (b : List ℕ). length b ≤ 16777216) alone.1 spells.limit in
          ap read_asked alone.1 ∙ alone_again asked.question (record { fields = spells.fields; bytes = refl; limit = limit })
          ∙ ap (λ (patience : ℕ). Ok (behind patience asked.question)) (sym alone.0)
      | inr more ↦
          let limit = subst (λ (b : List ℕ). length b ≤ 16777216) more spells.limit in
          let inner : length (question_bytes asked.question) ≤ 16777216 = omega (arith, limit, length-append (patience_bytes asked.patience) (question_bytes asked.question)) in
          ap read_asked more ∙ behind_again asked.patience asked.question spells.patience limit (record { fields = spells.fields; bytes = refl; limit = inner })
    ]

-- ---- what is read was written so

spelled_behind : (body : List ℕ) (tag : ℕ) (rest : List ℕ) (asked : Asked) → HasTag body tag rest → eqb tag 5 ≡ true
    → (number_at w32 rest >>= λ p. read_question p.1 >>= λ r. Ok (behind p.0 r)) ≡ Ok asked → SpellsAsked body asked
spelled_behind body tag rest asked t is e =
    let a = bind_ok (number_at w32 rest) (λ p. read_question p.1 >>= λ r. Ok (behind p.0 r)) asked e in
    let b = bind_ok (read_question a.0.1) (λ r. Ok (behind a.0.0 r)) asked a.2 in
    let t0 = number_takes w32 (2 ^ 32) wide32 rest a.0 t.rest_fits a.1 in
    let spells = question_spelled a.0.1 b.0 t0.0.rest_fits b.1 in
    let parts : rest ≡ to_be_bytes w32 a.0.0 ++ question_bytes b.0 = t0.0.parts ∙ ap (λ (r : List ℕ). to_be_bytes w32 a.0.0 ++ r) spells.bytes in
    let bytes : body ≡ patience_bytes a.0.0 ++ question_bytes b.0 = t.parts ∙ ap (λ (n : ℕ). 2 ∷ n ∷ rest) (eqb-true tag 5 is) ∙ ap (λ (r : List ℕ). 2 ∷ 5 ∷ r) parts in
    along (λ (y : Asked). SpellsAsked body y) (behind a.0.0 b.0) asked b.2
    (record { fields = spells.fields; patience = t0.1; bytes = inr bytes; limit = t.limit })

spelled_alone : (body : List ℕ) (asked : Asked) → IsBytes body → (read_question body >>= λ r. Ok (behind 0 r)) ≡ Ok asked → SpellsAsked body asked
spelled_alone body asked fits e =
    let a = bind_ok (read_question body) (λ r. Ok (behind 0 r)) asked e in
    let spells = question_spelled body a.0 fits a.1 in
    along (λ (y : Asked). SpellsAsked body y) (behind 0 a.0) asked a.2
    (record { fields = spells.fields; patience = omega arith; bytes = inl (refl, spells.bytes); limit = spells.limit })

pub asked_spelled : (body : List ℕ) (asked : Asked) → IsBytes body → read_asked body ≡ Ok asked → SpellsAsked body asked
unfolding read_asked
asked_spelled body asked fits e =
    let a = bind_ok (tag_at body) (λ t. cond (eqb t.0 5) (number_at w32 t.1 >>= λ p. read_question p.1 >>= λ r. Ok (behind p.0 r)) (read_question body >>= λ r. Ok (behind 0 r))) asked e in
    let t = tag_takes body a.0 fits a.1 in
    elim (chosen (eqb a.0.0 5) (number_at w32 a.0.1 >>= λ p. read_question p.1 >>= λ r. Ok (behind p.0 r)) (read_question body >>= λ r. Ok (behind 0 r)) (Ok asked) a.2) [
      | inl h ↦ spelled_behind body a.0.0 a.0.1 asked t h.0 h.1
      | inr h ↦ spelled_alone body asked fits h.1
    ]

-- what a call returned
pub is_spelled_asked : (body : List ℕ) (r : Result Asked DecodeFault) → IsBytes body → Gives (λ a. a) r (read_asked body) → IfOk r (λ a. SpellsAsked body a)
is_spelled_asked body (Ok a) fits given = asked_spelled body a fits given
is_spelled_asked body (Err e) fits given = tt

-- ---- what a call wrote

spells : (asked : Asked) → IsRequest (request_of asked.question) → asked.patience < 2 ^ 32 → length (asked_bytes asked) ≤ 16777216 → SpellsAsked (asked_bytes asked) asked
spells asked fields few limit =
    elim (chosen (eqb asked.patience 0) (question_bytes asked.question) (patience_bytes asked.patience ++ question_bytes asked.question) (asked_bytes asked) refl) [
      | inl none ↦ record { fields = fields; patience = few; bytes = inl (eqb-true asked.patience 0 none.0, sym none.1); limit = limit }
      | inr some ↦ record { fields = fields; patience = few; bytes = inr (sym some.1); limit = limit }
    ]

pub spells_framed : {X E : Type 0} (result : Result X E) (asked : Asked) (old new : List ℕ) → IsRequest (request_of asked.question) → asked.patience < 2 ^ 32
    → length (asked_bytes asked) ≤ 16777216 → OnOk result (new ≡ old ++ frame (asked_bytes asked))
    → OnOk result ((body : List ℕ) × SpellsAsked body asked × (new ≡ old ++ frame body))
spells_framed (Ok x) asked old new fields few limit told = (asked_bytes asked, spells asked fields few limit, told)
spells_framed (Err e) asked old new fields few limit told = told
