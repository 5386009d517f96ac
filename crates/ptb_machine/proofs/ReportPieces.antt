-- This file proves that the pieces of a fault's report are the report.
-- Main lemma: `report_shown`.
use Rattle.std.proofs.Common.{◌≡◌, Bool, List, [], ◌++◌, ℕ, Result, sym, ap, subst, ◌∙◌, append_assoc, append-nil}
use Rattle.std.specs.Prelude.{if◌then◌else◌, take, drop, codes, decimal}
use Rattle.ptb_expr.specs.declared.fault.Fault.{Fault}
use Rattle.ptb_text.specs.declared.device_fault.DeviceFault.{DeviceFault}
use Rattle.ptb_command.specs.Act.{newline, fault_word, report_bytes}
use Rattle.ptb_command.specs.Traces.{Trace}
use Rattle.ptb_command.specs.ShowResults.{IsShown}

pieces_joined : (a b c d e f g : List ℕ) → a ++ (b ++ (c ++ (d ++ (e ++ (f ++ (g ++ [])))))) ≡ a ++ b ++ c ++ d ++ e
    ++ f ++ g
pieces_joined a b c d e f g =
    ap (λ (x : List ℕ). a ++ (b ++ (c ++ (d ++ (e ++ (f ++ x)))))) (append-nil g)
    ∙ sym (append_assoc a b (c ++ (d ++ (e ++ (f ++ g)))))
    ∙ sym (append_assoc (a ++ b) c (d ++ (e ++ (f ++ g))))
    ∙ sym (append_assoc (a ++ b ++ c) d (e ++ (f ++ g)))
    ∙ sym (append_assoc (a ++ b ++ c ++ d) e (f ++ g))
    ∙ sym (append_assoc (a ++ b ++ c ++ d ++ e) f g)

pub report_shown : (o m : Trace) (fresh : Bool) (n : ℕ) (t : List ℕ) (f : Fault) (r : Result (Unit {0}) DeviceFault)
    (digits : List ℕ) → digits ≡ decimal n → (before : List ℕ) → before ≡ take f.mark t
    → (after : List ℕ) → after ≡ drop f.mark t
    → IsShown o m ((if fresh then [] else newline) ++ fault_word f.kind ++ newline
    ++ (digits ++ (codes " " ++ (before ++ (codes "?" ++ (after ++ (newline ++ []))))))) r
    → IsShown o m (report_bytes fresh n t f) r
report_shown o m fresh n t f r digits k before b after a h =
    let line = (if fresh then [] else newline) ++ fault_word f.kind ++ newline in
    subst (λ (s : List ℕ). IsShown o m s r)
    (pieces_joined line digits (codes " ") before (codes "?") after newline
    ∙ ap (λ (x : List ℕ). line ++ x ++ codes " " ++ before ++ codes "?" ++ after ++ newline) k
    ∙ ap (λ (x : List ℕ). line ++ decimal n ++ codes " " ++ x ++ codes "?" ++ after ++ newline) b
    ∙ ap (λ (x : List ℕ). line ++ decimal n ++ codes " " ++ take f.mark t ++ codes "?" ++ x ++ newline) a) h
