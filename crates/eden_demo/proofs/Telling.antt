-- What a verdict prints.
use Rattle.std.proofs.Common.{◌≡◌, ℕ, Bool, true, false, List, take, Option, Result, Ok, subst}
use Rattle.std.specs.Io.KnownBytes.{Appends}
use Rattle.std.specs.Prelude.{⊤, codes}
use Rattle.eden_logs.specs.declared.fault.AuditFault.{AuditFault}
use Rattle.eden_demo.specs.Verdicts.{Prints, PrintsFront, audit_name, verdict_text}

module _ (w0 w1 : Option (List ℕ)) (bytes text : List ℕ) (audit : Result ⊤ AuditFault) (agree : Bool) (bytes_are : bytes ≡ text)
    (text_is : text ≡ verdict_text (audit_name audit) agree) where
  pub prints : Appends w0 w1 bytes → Prints w0 w1
  prints written = record { said = audit_name audit; agree = agree; text = subst (Appends w0 w1) text_is (subst (Appends w0 w1) bytes_are written) }

  pub prints_front : (count : ℕ) × Appends w0 w1 (take count bytes) → PrintsFront w0 w1
  prints_front torn = record {
    said = audit_name audit;
    agree = agree;
    count = torn.0;
    text = subst (λ t. Appends w0 w1 (take torn.0 t)) text_is (subst (λ t. Appends w0 w1 (take torn.0 t)) bytes_are torn.1);
  }

  said_so : audit ≡ Ok tt → (agrees : Bool) → agree ≡ agrees → Appends w0 w1 bytes → Appends w0 w1 (verdict_text (audit_name (Ok tt)) agrees)
  said_so audit_is agrees agree_is written =
      subst (λ b. Appends w0 w1 (verdict_text (audit_name (Ok tt)) b)) agree_is
      (subst (λ a. Appends w0 w1 (verdict_text (audit_name a) agree)) audit_is (subst (Appends w0 w1) text_is (subst (Appends w0 w1) bytes_are written)))

  pub prints_agree : audit ≡ Ok tt → agree ≡ true → Appends w0 w1 bytes → Appends w0 w1 (codes "audit ok\nfollowers agree\n")
  prints_agree audit_is agree_is written = said_so audit_is true agree_is written

  pub prints_differ : audit ≡ Ok tt → agree ≡ false → Appends w0 w1 bytes → Appends w0 w1 (codes "audit ok\nfollowers differ\n")
  prints_differ audit_is agree_is written = said_so audit_is false agree_is written
