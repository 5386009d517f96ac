-- This file proves that a report is its pieces, one after the other.
-- Main lemma: `report_in_pieces`.
use Rattle.std.proofs.Common.{◌≡◌, ◌∙◌, ap, refl, sym, arith, List, ℕ, zero, suc, ◌<◌, [], ◌∷◌}
use Rattle.std.proofs.Common.{◌++◌, codes, append_assoc, append-nil, decimal, length, get_or, map}
use Rattle.std.specs.Prelude.{ℤ, Bool, ◌==◌, if◌then◌else◌}
use Rattle.std.proofs.lemmas.Bool.{ne_eqb}
use Rattle.std.specs.List.{flat_map}
use Rattle.std.proofs.lemmas.List.{get_or-map}
use Rattle.ptb_answers.specs.Outcome.{Answers}
use Rattle.ptb_answers.specs.declared.form.Form.{Form}
use Rattle.ptb_answers.specs.declared.form.Form.TheVariants.{One, Two}
use Rattle.ptb_answers.specs.declared.form.Marked.{Marked}
use Rattle.ptb_answers.specs.AnswerText.{spelling, item_text, in_form, items_in}
use Rattle.ptb_explore.specs.ReportText.{report_text}

-- what follows the answers, in the order in which it is written
abbrev pub after_answers : (word steps size shown : List ℕ) → List ℕ
after_answers word steps size shown = codes " "
    ++ (word ++ (codes " " ++ (steps ++ (codes " " ++ (size ++ (codes "\n" ++ (shown ++ (codes "\n" ++ []))))))))

joined : (r a w b s c z n t m : List ℕ)
    → r ++ (a ++ (w ++ (b ++ (s ++ (c ++ (z ++ (n ++ (t ++ (m ++ [])))))))))
    ≡ r ++ (a ++ w) ++ (b ++ s) ++ (c ++ z) ++ n ++ t ++ m
joined r a w b s c z n t m = simp (append_assoc, append-nil)

pub report_in_pieces : (items : List Marked) (word : List ℕ) (steps : ℕ) (shown : List ℕ)
    → (codes "RUN " ++ spelling items) ++ after_answers word (decimal steps) (decimal (length shown)) shown
    ≡ report_text items word steps shown
report_in_pieces items word steps shown =
    joined (codes "RUN " ++ spelling items) (codes " ") word (codes " ") (decimal steps) (codes " ")
    (decimal (length shown)) (codes "\n") shown (codes "\n")

-- ---- the answers

abbrev pub comma_and : Marked → List ℕ
comma_and m = codes "," ++ item_text m

-- the pieces of a list: its items, each but the first after a comma
abbrev pub pieces_of : List Marked → List (List ℕ)
pieces_of [] = []
pieces_of (m ∷ list) = item_text m ∷ map comma_and list

abbrev pub whole_piece : List ℕ → List ℕ
whole_piece p = p

pieces_after : (list : List Marked) → flat_map whole_piece (map comma_and list) ≡ flat_map comma_and list
pieces_after [] = refl
pieces_after (m ∷ list) = ap (λ x. comma_and m ++ x) (pieces_after list)

pub spelling_in_pieces : (list : List Marked) → 0 < length list → flat_map whole_piece (pieces_of list) ≡ spelling list
spelling_in_pieces [] h = absurd (omega arith)
spelling_in_pieces (m ∷ list) h = ap (λ x. item_text m ++ x) (pieces_after list)

pub length-pieces_of : (list : List Marked) → length (pieces_of list) ≡ length list
length-pieces_of [] = refl
length-pieces_of (m ∷ list) = ap suc (length_pieces list)
  where
    length_pieces : (rest : List Marked) → length (map comma_and rest) ≡ length rest
    length_pieces [] = refl
    length_pieces (x ∷ rest) = ap suc (length_pieces rest)

-- the piece at a place is a separator and the item there
pub piece_at : (list : List Marked) (k : ℕ) (m : Marked) → k < length list
    → (if k == 0 then [] else codes ",") ++ item_text (get_or list k m) ≡ get_or (pieces_of list) k []
piece_at [] k m h = absurd (omega arith)
piece_at (x ∷ list) zero m h = refl
piece_at (x ∷ list) (suc k) m h = ap (λ (b : Bool). (if b then [] else codes ",") ++ item_text (get_or list k m))
    (ne_eqb (suc k) 0 (λ e. omega (arith, e))) ∙ sym (get_or-map comma_and list k m [] (omega arith))

pub item_at : (form : Form) (answers : Answers) (bounds : List ℤ) (k : ℕ) (a n : ℤ) (m : Marked)
    → length answers ≡ length bounds → k < length answers
    → get_or (items_in form answers bounds) k m ≡ in_form form (get_or answers k a) (get_or bounds k n)
item_at One [] bounds k a n m same h = absurd (omega arith)
item_at Two [] bounds k a n m same h = absurd (omega arith)
item_at One (x ∷ answers) [] k a n m same h = absurd (omega arith)
item_at Two (x ∷ answers) [] k a n m same h = absurd (omega arith)
item_at One (x ∷ answers) (y ∷ bounds) zero a n m same h = refl
item_at Two (x ∷ answers) (y ∷ bounds) zero a n m same h = refl
item_at One (x ∷ answers) (y ∷ bounds) (suc k) a n m same h =
    item_at One answers bounds k a n m (omega arith) (omega arith)
item_at Two (x ∷ answers) (y ∷ bounds) (suc k) a n m same h =
    item_at Two answers bounds k a n m (omega arith) (omega arith)

pub length-items_in : (form : Form) (answers : Answers) (bounds : List ℤ) → length answers ≡ length bounds
    → length (items_in form answers bounds) ≡ length answers
length-items_in One [] bounds same = refl
length-items_in Two [] bounds same = refl
length-items_in One (x ∷ answers) [] same = absurd (omega arith)
length-items_in Two (x ∷ answers) [] same = absurd (omega arith)
length-items_in One (x ∷ answers) (y ∷ bounds) same = ap suc (length-items_in One answers bounds (omega arith))
length-items_in Two (x ∷ answers) (y ∷ bounds) same = ap suc (length-items_in Two answers bounds (omega arith))
