-- This file proves that values are the same where their parts are.
-- Main lemma: `same_reverse`.
use Rattle.std.proofs.Common.{◌≡◌, ◌∙◌, List, reverse, sym, ap}
use Rattle.std.proofs.lemmas.List.{reverse-reverse}
use Rattle.ptb_command.specs.declared.location.Location.{Location}
use Rattle.ptb_command.specs.declared.stack.Open.{Open}
use Rattle.ptb_command.specs.declared.stack.OpenLoop.{OpenLoop}

pub same_location : (x y : Location) → x.statement ≡ y.statement → x.offset ≡ y.offset → x ≡ y
same_location x y statement at = λ i. record { statement = statement i; offset = at i }

pub same_loop : (x y : OpenLoop) → x.back ≡ y.back → x.letter ≡ y.letter → x.limit ≡ y.limit → x.step ≡ y.step → x ≡ y
same_loop x y back letter limit step = λ i. record { back = back i; letter = letter i; limit = limit i; step = step i }

-- lists are the same where they are the same read from the end
pub same_reverse : (xs ys : List Open) → reverse xs ≡ reverse ys → xs ≡ ys
same_reverse xs ys same = sym (reverse-reverse xs) ∙ ap (λ (l : List Open). reverse l) same ∙ reverse-reverse ys
