-- This file answers that a line is written as its pieces.
use Rattle.std.proofs.Common.{◌≡◌, ◌∙◌, ap, append_assoc, sym, ℕ, List, [], ◌++◌, codes, decimal}
use Rattle.ptb_text.specs.Statements.{line_of}
use Rattle.ptb_text.proofs.WrittenTexts.{text_same}
use Rattle.ptb_text.proofs.listing.write_line.Goals as goal

in_pieces : (none digits text : List ℕ) (number : ℕ) → none ≡ [] → digits ≡ decimal number
    → none ++ (digits ++ (codes " " ++ (text ++ (codes "\n" ++ [])))) ≡ line_of (number, text)
in_pieces none digits text number empty is =
    ap (λ (p : List ℕ). p ++ (digits ++ (codes " " ++ (text ++ (codes "\n" ++ []))))) empty
    ∙ ap (λ (d : List ℕ). d ++ (codes " " ++ (text ++ (codes "\n" ++ [])))) is
    ∙ sym (append_assoc (decimal number) (codes " " ++ text) (codes "\n"))

pub returns-clause-writes : goal.returns-clause-writes
returns-clause-writes g c =
    text_same _ _ _ c.finish.result (in_pieces _ _ c.args.text.now c.args.number c.requires
    (c.as_bytes-digits.ensures.value ∙ c.format.ensures.text)) c.finish.ensures.writes
