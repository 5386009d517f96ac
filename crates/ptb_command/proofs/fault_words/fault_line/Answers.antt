-- This file answers that a line has the word of its fault, and a newline before it where one is due.
use Rattle.std.proofs.Common.{◌≡◌, ◌∙◌, ap, refl, sym, Bool, true, false, List, ℕ, [], ◌++◌, drop, codes}
use Rattle.std.specs.Prelude.{if◌then◌else◌}
use Rattle.ptb_expr.specs.declared.fault.FaultKind.{FaultKind}
use Rattle.ptb_command.specs.Act.{newline, fault_word}
use Rattle.ptb_command.proofs.fault_words.fault_line.Goals as goal

-- a line of a fault of one kind, by the kind that the code has found
line_of : (fresh : Bool) (kind found : FaultKind) (line : List ℕ) → kind ≡ found → line ≡ fault_word found ++ newline
    → (if fresh then drop 1 (newline ++ line) else newline ++ line)
    ≡ (if fresh then [] else newline) ++ fault_word kind ++ newline
line_of true kind found line is word = word ∙ ap (λ (k : FaultKind). fault_word k ++ newline) (sym is)
line_of false kind found line is word =
    ap (λ (l : List ℕ). newline ++ l) (word ∙ ap (λ (k : FaultKind). fault_word k ++ newline) (sym is))

pub returns-in-What : goal.returns-in-What
returns-in-What c =
    c.on_a_line.ensures ∙ line_of c.args.fresh c.args.kind _ (codes "WHAT?\n") c.in-What.is refl

pub returns-in-How : goal.returns-in-How
returns-in-How c =
    c.on_a_line-in-How.ensures ∙ line_of c.args.fresh c.args.kind _ (codes "HOW?\n") c.in-How.is refl

pub returns-in-Sorry : goal.returns-in-Sorry
returns-in-Sorry c =
    c.on_a_line-in-Sorry.ensures ∙ line_of c.args.fresh c.args.kind _ (codes "SORRY\n") c.in-Sorry.is refl
