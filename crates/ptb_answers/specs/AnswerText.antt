-- This file defines the text of a list of answers, as reports show it and the command line has it.
-- Main definition: `spelling`.
--     item_text m                   an answer, and its bound where one is stated
--     spelling list                 items joined by commas, or `none`
--     answers_of list               the answers of a list
--     without_bound k               an answer alone
--     unmarked answers              answers alone
--     marked answers bounds         each answer with its bound
--     items_in form answers bounds  the answers of a run as a form has them
use Rattle.std.specs.Prelude.{ℕ, List, [], ◌∷◌, ◌++◌, map, zip, codes, Option, Some, None, ℤ}
use Rattle.std.specs.Fmt.{signed_decimal}
use Rattle.std.specs.List.{flat_map}
use Rattle.ptb_answers.specs.Outcome.{Answers}
use Rattle.ptb_answers.specs.declared.form.Form.{Form}
use Rattle.ptb_answers.specs.declared.form.Form.TheVariants.{One, Two}
use Rattle.ptb_answers.specs.declared.form.Marked.{Marked}

-- ---- text

-- a bound follows `/`
abbrev pub bound_text : Option ℤ → List ℕ
bound_text None = []
bound_text (Some n) = codes "/" ++ signed_decimal n

abbrev pub item_text : Marked → List ℕ
item_text m = signed_decimal m.answer ++ bound_text m.bound

-- items after the first, each with a comma in front
abbrev pub more_spelling : List Marked → List ℕ
more_spelling list = flat_map (λ m. codes "," ++ item_text m) list

abbrev pub spelling : List Marked → List ℕ
spelling [] = codes "none"
spelling (m ∷ list) = item_text m ++ more_spelling list

-- ---- answers and their bounds

abbrev pub answers_of : List Marked → Answers
answers_of list = map (λ m. m.answer) list

abbrev pub without_bound : ℤ → Marked
without_bound k = record { answer = k; bound = None }

abbrev pub with_bound : ℤ → ℤ → Marked
with_bound k n = record { answer = k; bound = Some n }

abbrev pub unmarked : Answers → List Marked
unmarked answers = map without_bound answers

abbrev pub marked : Answers → List ℤ → List Marked
marked answers bounds = map (λ x. with_bound x.0 x.1) (zip answers bounds)

-- ---- forms

abbrev pub in_form : Form → ℤ → ℤ → Marked
in_form One k n = without_bound k
in_form Two k n = with_bound k n

abbrev pub items_in : Form → Answers → List ℤ → List Marked
items_in One answers bounds = unmarked answers
items_in Two answers bounds = marked answers bounds
