-- This file answers that the parts of a report are written as one text.
use Rattle.std.proofs.Common.{◌≡◌, ◌∙◌, ap, List, ℕ, [], ◌++◌, append_assoc, append-nil, codes}
use Rattle.ptb_text.proofs.PublicLemmas.{text_same}
use Rattle.ptb_command.specs.Act.{newline}
use Rattle.ptb_check.proofs.writer.write_parts.Goals as goal

joined : (w d s t q r n : List ℕ) → w ++ (d ++ (s ++ (t ++ (q ++ (r ++ (n ++ [])))))) ≡ w ++ d ++ s ++ t ++ q ++ r ++ n
joined w d s t q r n = simp (append_assoc, append-nil)

in_parts : (none word number before after : List ℕ) → none ≡ []
    → none ++ (word ++ (number ++ (codes " " ++ (before ++ (codes "?" ++ (after ++ (codes "\n" ++ [])))))))
    ≡ word ++ number ++ codes " " ++ before ++ codes "?" ++ after ++ newline
in_parts none word number before after empty =
    ap (λ (x : List ℕ). x
    ++ (word ++ (number ++ (codes " " ++ (before ++ (codes "?" ++ (after ++ (codes "\n" ++ [])))))))) empty
    ∙ joined word number (codes " ") before (codes "?") after (codes "\n")

pub returns : goal.returns
returns g c =
    text_same _ _ _ c.finish.result (in_parts _ c.args.word.now c.args.number.now c.args.before.now c.args.after.now
    c.new-report.ensures) c.finish.ensures.writes
