-- This file proves how a header grows item by item, and where it may be cut.
-- Main lemma: `begins_kept`.
use Rattle.std.proofs.Common.{inl, inr, min, decimal, ◌≡◌, ◌∙◌, ap, refl, sym, subst, arith, ℕ}
use Rattle.std.proofs.Common.{zero, suc, ◌+◌, ◌<◌, ◌≤◌, ◌⊎◌, List, [], ◌∷◌, ◌++◌, codes, get_or}
use Rattle.std.proofs.Common.{length, take, drop, append_assoc, append-nil, length-append, Option}
use Rattle.std.specs.Prelude.{ℤ, Bool, ◌==◌, if◌then◌else◌}
use Rattle.std.proofs.lemmas.Bool.{ne_eqb}
use Rattle.std.proofs.lemmas.List.{get_or-take, length-take, length-take-le, take-append-drop}
use Rattle.std.proofs.lemmas.List.{take-append-le, take-map, take_more, take_all}
use Rattle.std.proofs.Math.ListN.{get_or-append}
use Rattle.std.proofs.Math.Nat.{eq-or-lt_of_le}
use Rattle.std.proofs.lemmas.List.Concat.{flat_map-append}
use Rattle.std.proofs.Math.Seq.{get_or-append_seam, take-length}
use Rattle.ptb_answers.specs.declared.form.Form.{Form}
use Rattle.ptb_answers.specs.declared.form.Form.TheVariants.{One, Two}
use Rattle.ptb_answers.specs.declared.form.Marked.{Marked}
use Rattle.ptb_answers.specs.AnswerText.{in_form, item_text, more_spelling, spelling}
use Rattle.ptb_explore.specs.declared.kept_items.KeptItem.{KeptItem}
use Rattle.ptb_explore.specs.ReportHeaders.{joined_items, header_prefix, marked_of, marked_items, AreEnds, BeginsWith}
use Rattle.ptb_explore.specs.ReportText.{report_ending, report_text}
use Rattle.ptb_machine.specs.EndingWords.{field}
use Rattle.ptb_explore.proofs.ReportText.{comma_and}

-- ---- prefixes

pub begins_front : (s t : List ℕ) → BeginsWith (s ++ t) s
begins_front s t = take-append-le (length s) s t (omega arith) ∙ take-length s

-- what a prefix begins with, the text begins with
pub begins_shorter : (text s t : List ℕ) → BeginsWith text (s ++ t) → BeginsWith text s
begins_shorter text s t h =
    let is : text ≡ s ++ (t ++ drop (length (s ++ t)) text) = sym (take-append-drop (length (s ++ t)) text)
    ∙ ap (λ z. z ++ drop (length (s ++ t)) text) h ∙ append_assoc s t (drop (length (s ++ t)) text) in
    ap (take (length s)) is ∙ begins_front s (t ++ drop (length (s ++ t)) text)

pub begins_within : (text front : List ℕ) → BeginsWith text front → length front ≤ length text
begins_within text front h = omega (arith, length-take (length front) text, ap length h)

pub begins_longer : (new old s : List ℕ) → BeginsWith new old → BeginsWith old s → BeginsWith new s
begins_longer new old s h g =
    let is : old ≡ s ++ drop (length s) old = sym (take-append-drop (length s) old)
    ∙ ap (λ z. z ++ drop (length s) old) g in
    begins_shorter new s (drop (length s) old) (subst (BeginsWith new) is h)

-- ---- items

-- one item more
pub joined_more : (xs : List Marked) (m : Marked)
    → joined_items (xs ++ m ∷ []) ≡ joined_items xs ++ ((if length xs == 0 then [] else codes ",") ++ item_text m)
joined_more [] m = append-nil (item_text m)
joined_more (x ∷ xs) m =
    ap (λ z. item_text x ++ z) (flat_map-append comma_and xs (m ∷ [])
    ∙ ap (λ z. more_spelling xs ++ z) (append-nil (comma_and m)))
    ∙ sym (append_assoc (item_text x) (more_spelling xs) (comma_and m))
    ∙ ap (λ (b : Bool). (item_text x ++ more_spelling xs) ++ ((if b then [] else codes ",") ++ item_text m))
    (sym (ne_eqb (length (x ∷ xs)) 0 (λ e. omega (arith, e))))

pub header_prefix_more : (xs : List Marked) (m : Marked) (k : ℕ) → length xs ≡ k
    → header_prefix (xs ++ m ∷ []) ≡ header_prefix xs ++ ((if k == 0 then [] else codes ",") ++ item_text m)
header_prefix_more xs m k is =
    ap (λ z. codes "RUN " ++ z) (joined_more xs m)
    ∙ sym (append_assoc (codes "RUN ") (joined_items xs) ((if length xs == 0 then [] else codes ",") ++ item_text m))
    ∙ ap (λ (n : ℕ). header_prefix xs ++ ((if n == 0 then [] else codes ",") ++ item_text m)) is

-- more items
joined_longer : (xs ys : List Marked) → (rest : List ℕ) × (joined_items (xs ++ ys) ≡ joined_items xs ++ rest)
joined_longer [] ys = (joined_items ys, refl)
joined_longer (x ∷ xs) ys = (
  more_spelling ys,
  ap (λ z. item_text x ++ z) (flat_map-append comma_and xs ys)
      ∙ sym (append_assoc (item_text x) (more_spelling xs) (more_spelling ys)),
)

pub begins_with_fewer : (text : List ℕ) (xs ys : List Marked) → BeginsWith text (header_prefix (xs ++ ys))
    → BeginsWith text (header_prefix xs)
begins_with_fewer text xs ys h =
    let l = joined_longer xs ys in
    let is : header_prefix (xs ++ ys) ≡ header_prefix xs ++ l.0 = ap (λ z. codes "RUN " ++ z) l.1
    ∙ sym (append_assoc (codes "RUN ") (joined_items xs) l.0) in
    begins_shorter text (header_prefix xs) l.0 (subst (BeginsWith text) is h)

pub begins_with_first : (text : List ℕ) (xs : List Marked) (n : ℕ) → BeginsWith text (header_prefix xs)
    → BeginsWith text (header_prefix (take n xs))
begins_with_first text xs n h =
    begins_with_fewer text (take n xs) (drop n xs)
    (subst (λ z. BeginsWith text (header_prefix z)) (sym (take-append-drop n xs)) h)

-- an item as a form has it
in_form_is : (form : Form) (a n : ℤ) → in_form form a n ≡ record { answer = a; bound = (in_form form a n).bound }
in_form_is One a n = refl
in_form_is Two a n = refl

pub is_in_form : (form : Form) (a b n m : ℤ) (bound : Option ℤ) → b ≡ a → m ≡ n
    → ((answer : ℤ) → bound ≡ (in_form form answer m).bound) → record { answer = b; bound = bound } ≡ in_form form a n
is_in_form form a b n m bound answers bounds has =
    ap (λ (x : ℤ). record { answer = x; bound = bound }) answers ∙ ap (λ (o : Option ℤ). record {
      answer = a;
      bound = o;
    }) (has a ∙ ap (λ (y : ℤ). (in_form form a y).bound) bounds) ∙ sym (in_form_is form a n)

-- a report is its header up to the end of its items, and what comes after them
ending_joined : (r a w s z n t m : List ℕ)
    → (r ++ a) ++ (w ++ s ++ z ++ n ++ t ++ m) ≡ r ++ a ++ w ++ s ++ z ++ n ++ t ++ m
ending_joined r a w s z n t m = simp append_assoc

spelling_is : (items : List Marked) → 0 < length items → joined_items items ≡ spelling items
spelling_is [] some = absurd (omega (arith, some))
spelling_is (m ∷ items) some = refl

pub report_from_begun : (items : List Marked) (word : List ℕ) (steps : ℕ) (shown : List ℕ) → 0 < length items
    → header_prefix items ++ report_ending word steps shown ≡ report_text items word steps shown
report_from_begun items word steps shown some =
    ap (λ z. (codes "RUN " ++ z) ++ report_ending word steps shown) (spelling_is items some)
    ∙ ending_joined (codes "RUN ") (spelling items) (field word) (field (decimal steps))
    (field (decimal (length shown))) (codes "\n") shown (codes "\n")

-- ---- what is kept

take_take : {X : Type 0} (m n : ℕ) (xs : List X) → m ≤ n → take m (take n xs) ≡ take m xs
take_take zero n xs h = refl
take_take (suc m) zero xs h = absurd (omega (arith, h))
take_take (suc m) (suc n) [] h = refl
take_take (suc m) (suc n) (x ∷ xs) h = ap (λ l. x ∷ l) (take_take m n xs (omega (arith, h)))

pub items_cut : (kept : List KeptItem) (c : ℕ) → marked_items (take c kept) ≡ take c (marked_items kept)
items_cut kept c = sym (take-map marked_of c kept)

pub ends_cut : (kept : List KeptItem) (c : ℕ) → AreEnds kept → AreEnds (take c kept)
ends_cut kept c h k x within =
    let l : length (take c kept) ≡ min c (length kept) = length-take c kept in
    let in_cut : k < c = omega (arith, within, l) in
    let in_kept : k < length kept = omega (arith, within, l) in
    let same : take (k + 1) (marked_items kept) ≡ take (k + 1) (marked_items (take c kept)) =
    sym (ap (take (k + 1)) (items_cut kept c) ∙ take_take (k + 1) c (marked_items kept) (omega (arith, in_cut))) in
    ap (λ (z : KeptItem). z.end) (get_or-take c kept k x in_cut) ∙ h k x in_kept
    ∙ ap (λ z. length (header_prefix z)) same

items_push : (kept : List KeptItem) (e : KeptItem)
    → marked_items (kept ++ e ∷ []) ≡ marked_items kept ++ marked_of e ∷ []
items_push [] e = refl
items_push (x ∷ kept) e = ap (λ l. marked_of x ∷ l) (items_push kept e)

pub length-items_of : (kept : List KeptItem) → length (marked_items kept) ≡ length kept
length-items_of [] = refl
length-items_of (x ∷ kept) = ap suc (length-items_of kept)

ends_push : (kept : List KeptItem) (e : KeptItem) → AreEnds kept
    → e.end ≡ length (header_prefix (marked_items kept ++ marked_of e ∷ [])) → AreEnds (kept ++ e ∷ [])
ends_push kept e h is k x within = at (eq-or-lt_of_le most)
  where
    most : k ≤ length kept
    most = omega (arith, within, length-append kept (e ∷ []))

    at : (k ≡ length kept) ⊎ (k < length kept)
        → (get_or (kept ++ e ∷ []) k x).end ≡ length (header_prefix (take (k + 1) (marked_items (kept ++ e ∷ []))))
    at (inl last) =
        let all : take (k + 1) (marked_items (kept ++ e ∷ [])) ≡ marked_items kept ++ marked_of e ∷ [] =
        take_all (k + 1) (marked_items (kept ++ e ∷ []))
        (omega (arith, last, length-items_of (kept ++ e ∷ []), length-append kept (e ∷ []))) ∙ items_push kept e in
        ap (λ n. (get_or (kept ++ e ∷ []) n x).end) last ∙ ap (λ (z : KeptItem). z.end) (get_or-append_seam kept e [] x)
        ∙ is ∙ ap (λ z. length (header_prefix z)) (sym all)
    at (inr before) =
        let same : take (k + 1) (marked_items kept) ≡ take (k + 1) (marked_items (kept ++ e ∷ [])) =
        sym (ap (take (k + 1)) (items_push kept e) ∙ take-append-le (k + 1) (marked_items kept) (marked_of e ∷ [])
        (omega (arith, before, length-items_of kept))) in
        ap (λ (z : KeptItem). z.end) (get_or-append kept (e ∷ []) x k before) ∙ h k x before
        ∙ ap (λ z. length (header_prefix z)) same

-- ---- item after item: items are all of them, of which k were added; m is the next

module _ (items : List Marked) (k : ℕ) (m : Marked) (within : k < length items) (next : m ≡ get_or items k m) where
  added : take (k + 1) items ≡ take k items ++ m ∷ []
  added = take_more items k m within ∙ ap (λ x. take k items ++ x ∷ []) (sym next)

  pub text_added : (text new : List ℕ) → text ≡ header_prefix (take k items)
      → new ≡ text ++ ((if k == 0 then [] else codes ",") ++ item_text m) → new ≡ header_prefix (take (k + 1) items)
  text_added text new is grown =
      grown ∙ ap (λ z. z ++ ((if k == 0 then [] else codes ",") ++ item_text m)) is
      ∙ sym (header_prefix_more (take k items) m k (length-take-le k items (omega (arith, within))))
      ∙ ap header_prefix (sym added)

  module _ (kept new : List KeptItem) (e : KeptItem) (grown : new ≡ kept ++ e ∷ []) (same : marked_of e ≡ m)
      (is : marked_items kept ≡ take k items) where
    pub items_kept : marked_items new ≡ take (k + 1) items
    items_kept =
        ap marked_items grown ∙ items_push kept e ∙ ap (λ x. x ++ marked_of e ∷ []) is
        ∙ ap (λ x. take k items ++ x ∷ []) same ∙ sym added

    pub ends_kept : AreEnds kept → e.end ≡ length (header_prefix (take (k + 1) items)) → AreEnds new
    ends_kept h end =
        let all : take (k + 1) items ≡ marked_items kept ++ marked_of e ∷ [] =
        added ∙ ap (λ x. take k items ++ x ∷ []) (sym same) ∙ ap (λ x. x ++ marked_of e ∷ []) (sym is) in
        subst AreEnds (sym grown) (ends_push kept e h (end ∙ ap (λ z. length (header_prefix z)) all))

-- a text of the first k items begins with those that are kept
pub begins_kept : (items : List Marked) (k : ℕ) (text : List ℕ) (kept : List KeptItem)
    → text ≡ header_prefix (take k items)
    → marked_items kept ≡ take k items → BeginsWith text (header_prefix (marked_items kept))
begins_kept items k text kept is of =
    subst (λ z. BeginsWith z (header_prefix (marked_items kept))) (ap header_prefix of ∙ sym is)
    (take-length (header_prefix (marked_items kept)))
