-- This file proves that the lines that are cut from bytes one after the other are the input lines.
-- Main lemma: `input_lines-cut`.
use Rattle.std.proofs.Common.{◌≡◌, ℕ, suc, zero, ◌+◌, ◌-◌, ◌≤◌, ◌<◌, Bool, true, false, List, []}
use Rattle.std.proofs.Common.{◌∷◌, ◌++◌, length, map, filter, take, drop, get_or, Option, Some}
use Rattle.std.proofs.Common.{None, refl, sym, ap, subst, ◌∙◌, append_assoc, append-nil, arith}
use Rattle.std.proofs.Common.{length-append, length-drop, length-take, slice_index, slice_range, add-one, inl, inr}
use Rattle.std.proofs.Common.{Fits, w8}
use Rattle.std.specs.Prelude.{◌==◌, ◌&&◌, ◌||◌, if◌then◌else◌}
use Rattle.std.proofs.Math.Seq.{take-append_seam, take-length, take-suc}
use Rattle.std.proofs.lemmas.Bool.{agree_below, agree_below_at, and_parts, eqb-true, ne_eqb, eq-eqb, cases_lt}
use Rattle.std.proofs.lemmas.List.{map-append, take_all, take-append-drop, get_or-take, get_or-drop}
use Rattle.std.proofs.lemmas.List.Elements.{filter-append}
use Rattle.std.proofs.lemmas.List.Folds.{list_all-append}
use Rattle.std.specs.List.{list_all}
use Rattle.std.specs.Str.Lines.{strip_carriage_return}
use Rattle.ptb_text.specs.Lines.{onto_first, pieces, tab_as_space, is_printable, line_limit, clean_line, input_lines}
use Rattle.ptb_text.proofs.PublicLemmas.{both, both_true}
use Rattle.ptb_devices.specs.CutLines.{IsClean, cleaned_byte, StayUpTo, with_byte, kept_bytes, whole_lines}
use Rattle.ptb_devices.specs.CutLines.{last_piece, line_of_piece, Cuts, IsLine, AddsLines}
use Rattle.ptb_devices.specs.CutLineLaws.{last_piece-append, whole_lines-append}

-- ---- one byte more

-- of what comes after the first n, nothing is kept
take-again : {A : Type 0} (n : ℕ) (xs ys : List A) → take n (take n xs ++ ys) ≡ take n (xs ++ ys)
take-again zero xs ys = refl
take-again (suc n) [] ys = refl
take-again (suc n) (x ∷ xs) ys = ap (λ l. x ∷ l) (take-again n xs ys)

pub clean_line-byte : (l : List ℕ) (b : ℕ) → clean_line (l ++ b ∷ []) ≡ with_byte (clean_line l) b
clean_line-byte l b =
    let printable : List ℕ = filter is_printable (map tab_as_space l) in
    let split : filter is_printable (map tab_as_space (l ++ b ∷ [])) ≡ printable ++ cleaned_byte b =
    ap (filter is_printable) (map-append tab_as_space l (b ∷ []))
    ∙ filter-append is_printable (map tab_as_space l) (tab_as_space b ∷ []) in
    ap (take line_limit) split ∙ sym (take-again line_limit printable (cleaned_byte b))

pub clean_line-take : (l : List ℕ) (i : ℕ) → i < length l
    → clean_line (take (i + 1) l) ≡ with_byte (clean_line (take i l)) (get_or l i 0)
clean_line-take l i inside = ap clean_line (ap (λ n. take n l) (add-one i) ∙ take-suc l i 0 inside)
    ∙ clean_line-byte (take i l) (get_or l i 0)

pub with_byte-full : (kept : List ℕ) (b : ℕ) → length kept ≡ line_limit → with_byte kept b ≡ kept
with_byte-full kept b full = ap (λ n. take n (kept ++ cleaned_byte b)) (sym full)
    ∙ take-append_seam kept (cleaned_byte b)

pub with_byte-dropped : (kept : List ℕ) (b : ℕ) → length kept ≤ line_limit → cleaned_byte b ≡ []
    → with_byte kept b ≡ kept
with_byte-dropped kept b fits e = ap (λ l. take line_limit (kept ++ l)) e ∙ ap (take line_limit) (append-nil kept)
    ∙ take_all line_limit kept fits

pub with_byte-kept : (kept : List ℕ) (b c : ℕ) → length kept < line_limit → cleaned_byte b ≡ c ∷ []
    → with_byte kept b ≡ kept ++ c ∷ []
with_byte-kept kept b c room e =
    let fits : length (kept ++ c ∷ []) ≤ line_limit = omega (arith, length-append kept (c ∷ [])) in
    ap (λ l. take line_limit (kept ++ l)) e ∙ take_all line_limit (kept ++ c ∷ []) fits

-- ---- what is kept is clean

list_all-take : (p : ℕ → Bool) (n : ℕ) (xs : List ℕ) → list_all p xs ≡ true → list_all p (take n xs) ≡ true
list_all-take p zero xs all = refl
list_all-take p (suc n) [] all = refl
list_all-take p (suc n) (x ∷ xs) all = both _ _ (both_true _ _ all).0 (list_all-take p n xs (both_true _ _ all).1)

cleaned_byte-printable : (b : ℕ) → list_all is_printable (cleaned_byte b) ≡ true
cleaned_byte-printable b = by_test (is_printable (tab_as_space b)) refl where
  by_test : (t : Bool) → is_printable (tab_as_space b) ≡ t
      → list_all is_printable (if t then tab_as_space b ∷ [] else []) ≡ true
  by_test true e = both _ _ e refl
  by_test false e = refl

pub IsClean-with_byte : (kept : List ℕ) (b : ℕ) → IsClean kept → IsClean (with_byte kept b)
IsClean-with_byte kept b clean =
    let all = kept ++ cleaned_byte b in (
      omega (arith, length-take line_limit all),
      list_all-take is_printable line_limit all (list_all-append is_printable kept (cleaned_byte b)
          ∙ both _ _ clean.1 (cleaned_byte-printable b)),
    )

-- ---- bytes after other bytes

pub Cuts_none : (p : Option (List ℕ)) → Cuts p [] [] p
Cuts_none p = (refl, refl)

pub Cuts_more : (p q r : Option (List ℕ)) (xs ys : List ℕ) (ls ms : List (List ℕ)) → Cuts p xs ls q → Cuts q ys ms r
    → Cuts p (xs ++ ys) (ls ++ ms) r
Cuts_more p q r xs ys ls ms first second = (
  whole_lines-append p xs ys ∙ ap (λ l. l ++ whole_lines (last_piece p xs) ys) first.0
      ∙ ap (λ s. ls ++ whole_lines s ys) first.1 ∙ ap (λ l. ls ++ l) second.0,
  last_piece-append p xs ys ∙ ap (λ s. last_piece s ys) first.1 ∙ second.1,
)

-- one byte that doesn't end the line, and one that does
pub Cuts_byte : (p : Option (List ℕ)) (b : ℕ) → (b ≡ 10 → ⊥) → Cuts p (b ∷ []) [] (Some (with_byte (kept_bytes p) b))
Cuts_byte p b other = (
  ap (λ t. if t then kept_bytes p ∷ [] else []) (ne_eqb b 10 other),
  ap (λ t. if t then None else Some (with_byte (kept_bytes p) b)) (ne_eqb b 10 other),
)

pub Cuts_end : (p : Option (List ℕ)) (b : ℕ) → b ≡ 10 → Cuts p (b ∷ []) (kept_bytes p ∷ []) None
Cuts_end p b e = (
  ap (λ t. if t then kept_bytes p ∷ [] else []) (eq-eqb b 10 e),
  ap (λ t. if t then None else Some (with_byte (kept_bytes p) b)) (eq-eqb b 10 e),
)

-- ---- bytes taken one after the other

-- the bytes before the index were taken, and none of them ended a line
pub record CutsUpTo (p : Option (List ℕ)) (bytes : List ℕ) (i : ℕ) (q : Option (List ℕ)) : Type 0 where
  pub cut : Cuts p (take i bytes) [] q

-- the next byte
take-next : (bytes : List ℕ) (i : ℕ) → i < length bytes → take i bytes ++ get_or bytes i 0 ∷ [] ≡ take (i + 1) bytes
take-next bytes i inside = sym (ap (λ n. take n bytes) (add-one i) ∙ take-suc bytes i 0 inside)

pub CutsUpTo_none : (p : Option (List ℕ)) (bytes : List ℕ) → CutsUpTo p bytes 0 p
CutsUpTo_none p bytes = record { cut = Cuts_none p }

pub CutsUpTo_more : (p q : Option (List ℕ)) (bytes : List ℕ) (i : ℕ) → i < length bytes → (get_or bytes i 0 ≡ 10 → ⊥)
    → CutsUpTo p bytes i q → CutsUpTo p bytes (i + 1) (Some (with_byte (kept_bytes q) (get_or bytes i 0)))
CutsUpTo_more p q bytes i inside other before = record {
  cut = subst (λ (l : List ℕ). Cuts p l [] (Some (with_byte (kept_bytes q) (get_or bytes i 0))))
      (take-next bytes i inside)
      (Cuts_more p q _ (take i bytes) (get_or bytes i 0 ∷ []) [] [] before.cut (Cuts_byte q (get_or bytes i 0) other));
}

pub CutsUpTo_all : (p q : Option (List ℕ)) (bytes : List ℕ) (i : ℕ) → i ≡ length bytes → CutsUpTo p bytes i q
    → Cuts p bytes [] q
CutsUpTo_all p q bytes i all before = subst (λ (l : List ℕ). Cuts p l [] q) (take_all i bytes (omega arith)) before.cut

pub CutsUpTo_end : (p q : Option (List ℕ)) (bytes : List ℕ) (i : ℕ) → i < length bytes → get_or bytes i 0 ≡ 10
    → CutsUpTo p bytes i q
    → Cuts p (take (i + 1) bytes) (kept_bytes q ∷ []) None
CutsUpTo_end p q bytes i inside e before =
    subst (λ (l : List ℕ). Cuts p l (kept_bytes q ∷ []) None) (take-next bytes i inside)
    (Cuts_more p q None (take i bytes) (get_or bytes i 0 ∷ []) [] (kept_bytes q ∷ []) before.cut
    (Cuts_end q (get_or bytes i 0) e))

-- ---- a line of which the cleaning keeps each byte

-- the bytes before the index were taken, all of them are kept, and none ended a line
pub record KeepsUpTo (bytes : List ℕ) (i : ℕ) : Type 0 where
  pub piece : Option (List ℕ)
  pub cut : CutsUpTo None bytes i piece
  pub all : kept_bytes piece ≡ take i bytes
  pub fits : i ≤ line_limit

pub KeepsUpTo_none : (bytes : List ℕ) → KeepsUpTo bytes 0
KeepsUpTo_none bytes = record { piece = None; cut = CutsUpTo_none None bytes; all = refl; fits = omega arith }

-- a byte that the cleaning keeps ends no line
no_end : (byte : ℕ) → cleaned_byte byte ≡ byte ∷ [] → byte ≡ 10 → ⊥
no_end byte stays e =
    let none : 0 ≡ 1 = ap length (subst (λ (b : ℕ). cleaned_byte b ≡ b ∷ []) e stays) in omega (arith, none)

pub KeepsUpTo_more : (bytes : List ℕ) (i : ℕ) → i < length bytes → i + 1 ≤ line_limit
    → cleaned_byte (get_or bytes i 0) ≡ get_or bytes i 0 ∷ []
    → KeepsUpTo bytes i → KeepsUpTo bytes (i + 1)
KeepsUpTo_more bytes i inside room stays before =
    let long : length (take i bytes) < line_limit = omega (arith, length-take i bytes, room) in
    record {
      piece = Some (with_byte (kept_bytes before.piece) (get_or bytes i 0));
      cut = CutsUpTo_more None before.piece bytes i inside (no_end (get_or bytes i 0) stays) before.cut;
      all = ap (λ k. with_byte k (get_or bytes i 0)) before.all
          ∙ with_byte-kept (take i bytes) (get_or bytes i 0) (get_or bytes i 0) long stays ∙ take-next bytes i inside;
      fits = room;
    }

-- ---- bytes that stay

pub StayUpTo_none : (bytes : List ℕ) → StayUpTo bytes 0
StayUpTo_none bytes i h = absurd (omega (arith, h))

-- a byte that the cleaning leaves as it is, as a test
abbrev pub is_left : ℕ → Bool
is_left b = (tab_as_space b == b) && is_printable b

pub is_left-stays : (b : ℕ) → is_left b ≡ true → cleaned_byte b ≡ b ∷ []
is_left-stays b e =
    let parts = and_parts (tab_as_space b == b) (is_printable b) e in
    ap (λ (k : ℕ). filter is_printable (k ∷ [])) (eqb-true (tab_as_space b) b parts.0)
    ∙ ap (λ (t : Bool). if t then b ∷ [] else []) parts.1

-- and then those of a block before the first that a test stops at
pub StayUpTo_run : (stops : ℕ → Bool) (bytes : List ℕ) (n k : ℕ)
    → agree_below (λ b. stops b || is_left b) (λ _. true) 256 ≡ true → ((i : ℕ) → Fits w8 (get_or bytes i 0))
    → ((i : ℕ) → n ≤ i → i < n + k → stops (get_or bytes i 0) ≡ false)
    → StayUpTo bytes n → StayUpTo bytes (n + k)
StayUpTo_run stops bytes n k all fits passed before i h = elim (cases_lt i n) [
  | inl low ↦ before i low
  | inr high ↦
      let byte = get_or bytes i 0 in
      is_left-stays byte (sym (ap (λ (t : Bool). t || is_left byte) (passed i high h))
      ∙ agree_below_at (λ b. stops b || is_left b) (λ _. true) 256 byte all (fits i).fits)
]

-- the first bytes stay
pub KeepsUpTo_stay : (bytes : List ℕ) (i : ℕ) → i ≤ length bytes → i ≤ line_limit → StayUpTo bytes i
    → KeepsUpTo bytes i
KeepsUpTo_stay bytes zero inside room stay = KeepsUpTo_none bytes
KeepsUpTo_stay bytes (suc i) inside room stay = subst (KeepsUpTo bytes) (add-one i)
    (KeepsUpTo_more bytes i (omega (arith, inside)) (omega (arith, room)) (stay i (omega arith))
    (KeepsUpTo_stay bytes i (omega (arith, inside)) (omega (arith, room)) (λ k h. stay k (omega (arith, h)))))

pub KeepsUpTo_end : (bytes : List ℕ) (i : ℕ) → i < length bytes → get_or bytes i 0 ≡ 10 → KeepsUpTo bytes i
    → IsLine (take i bytes) (take (i + 1) bytes)
KeepsUpTo_end bytes i inside e before =
    subst (λ (l : List ℕ). Cuts None (take (i + 1) bytes) (l ∷ []) None) before.all
    (CutsUpTo_end None before.piece bytes i inside e before.cut)

-- ---- lines that are added while bytes are taken

-- of these bytes, those before the rest were taken, and the lines that they end were added
pub record AddsUpTo (p : Option (List ℕ)) (bytes rest : List ℕ) (old new : List (List ℕ))
    (q : Option (List ℕ)) : Type 0 where
  pub prefix : List ℕ
  pub whole : bytes ≡ prefix ++ rest
  pub adds : AddsLines p prefix old new q

pub AddsLines_more : (p q r : Option (List ℕ)) (xs ys : List ℕ) (old mid given : List (List ℕ))
    → AddsLines p xs old mid q → Cuts q ys given r
    → AddsLines p (xs ++ ys) old (mid ++ given) r
AddsLines_more p q r xs ys old mid given adds cut =
    let both : Cuts p (xs ++ ys) (whole_lines p xs ++ given) r =
    Cuts_more p q r xs ys (whole_lines p xs) given (refl, adds.1) cut in
    (ap (λ l. l ++ given) adds.0 ∙ append_assoc old (whole_lines p xs) given ∙ ap (λ l. old ++ l) (sym both.0), both.1)

pub AddsUpTo_more : (p q : Option (List ℕ)) (bytes rest : List ℕ) (old new : List (List ℕ)) (n m : ℕ) (line : List ℕ)
    → m ≡ length rest - n
    → AddsUpTo p bytes rest old new q → Cuts q (take n rest) (line ∷ []) None
    → AddsUpTo p bytes (take m (drop n rest)) old (new ++ line ∷ []) None
AddsUpTo_more p q bytes rest old new n m line size before ends =
    let all : take m (drop n rest) ≡ drop n rest = take_all m (drop n rest) (omega (arith, length-drop n rest)) in
    record {
      prefix = before.prefix ++ take n rest;
      whole = before.whole ∙ ap (λ l. before.prefix ++ l) (sym (take-append-drop n rest)
          ∙ ap (λ l. take n rest ++ l) (sym all))
          ∙ sym (append_assoc before.prefix (take n rest) (take m (drop n rest)));
      adds = AddsLines_more p q None before.prefix (take n rest) old new (line ∷ []) before.adds ends;
    }

pub AddsUpTo_all : (p q r : Option (List ℕ)) (bytes rest : List ℕ) (old new : List (List ℕ))
    → AddsUpTo p bytes rest old new q → Cuts q rest [] r
    → AddsLines p bytes old new r
AddsUpTo_all p q r bytes rest old new before part =
    let all = AddsLines_more p q r before.prefix rest old new [] before.adds part in
    subst (λ (l : List ℕ). AddsLines p l old new r) (sym before.whole) (sym (append-nil new) ∙ all.0, all.1)

-- ---- a byte 13 in front of a byte 10 is no exception

pub clean_line-return : (l : List ℕ) → clean_line (l ++ 13 ∷ []) ≡ clean_line l
clean_line-return l =
    let printable : List ℕ = filter is_printable (map tab_as_space l) in
    clean_line-byte l 13 ∙ take-again line_limit printable [] ∙ ap (take line_limit) (append-nil printable)

-- a list that ends in a byte 13 is what comes before it, and that byte
ends_in_return : (l : List ℕ) (j : ℕ) → suc j ≡ length l → slice_index l j ≡ 13 → l ≡ take j l ++ 13 ∷ []
ends_in_return l j size last =
    let inside : j < length l = omega arith in
    sym (take-length l) ∙ ap (λ n. take n l) (sym size) ∙ take-suc l j 0 inside ∙ ap (λ b. take j l ++ b ∷ []) last

pub clean_line-strip : (l : List ℕ) → clean_line (strip_carriage_return l) ≡ clean_line l
clean_line-strip [] = refl
clean_line-strip (x ∷ xs) = at_last (slice_index (x ∷ xs) (length (x ∷ xs) - 1) == 13) refl where
  at_last : (t : Bool) → (slice_index (x ∷ xs) (length (x ∷ xs) - 1) == 13) ≡ t
      → clean_line (if t then take (length (x ∷ xs) - 1) (x ∷ xs) else (x ∷ xs)) ≡ clean_line (x ∷ xs)
  at_last true e =
      let whole : x ∷ xs ≡ take (length (x ∷ xs) - 1) (x ∷ xs) ++ 13 ∷ [] =
      ends_in_return (x ∷ xs) (length (x ∷ xs) - 1) (omega arith) (eqb-true _ _ e) in
      sym (clean_line-return (take (length (x ∷ xs) - 1) (x ∷ xs))) ∙ ap clean_line (sym whole)
  at_last false e = refl

clean_line-strip_all : (ls : List (List ℕ)) → map clean_line (map strip_carriage_return ls) ≡ map clean_line ls
clean_line-strip_all [] = refl
clean_line-strip_all (l ∷ ls) =
    ap (λ m. m ∷ map clean_line (map strip_carriage_return ls)) (clean_line-strip l)
    ∙ ap (λ ms. clean_line l ∷ ms) (clean_line-strip_all ls)

-- ---- the lines of all bytes

-- the bytes of a piece that may have begun
abbrev bytes_of : Option (List ℕ) → List ℕ
bytes_of None = []
bytes_of (Some l) = l

abbrev clean_piece : Option (List ℕ) → Option (List ℕ)
clean_piece None = None
clean_piece (Some l) = Some (clean_line l)

-- the lines of bytes before which a piece may have begun
abbrev all_lines : Option (List ℕ) → List ℕ → List (List ℕ)
all_lines p bytes = whole_lines p bytes ++ line_of_piece (last_piece p bytes)

-- the pieces of bytes before which a piece may have begun
abbrev onto_pieces : Option (List ℕ) → List (List ℕ) → List (List ℕ)
onto_pieces None ms = ms
onto_pieces (Some l) [] = l ∷ []
onto_pieces (Some l) (m ∷ ms) = (l ++ m) ∷ ms

onto_pieces-first : (p : Option (List ℕ)) (b : ℕ) (ms : List (List ℕ))
    → onto_pieces p (onto_first b ms) ≡ onto_pieces (Some (bytes_of p ++ b ∷ [])) ms
onto_pieces-first None b [] = refl
onto_pieces-first None b (m ∷ ms) = refl
onto_pieces-first (Some l) b [] = refl
onto_pieces-first (Some l) b (m ∷ ms) = ap (λ k. k ∷ ms) (sym (append_assoc l (b ∷ []) m))

kept_bytes-clean_piece : (p : Option (List ℕ)) → kept_bytes (clean_piece p) ≡ clean_line (bytes_of p)
kept_bytes-clean_piece None = refl
kept_bytes-clean_piece (Some l) = refl

at_byte : (p : Option (List ℕ)) (b : ℕ) (bytes : List ℕ) (t : Bool)
    → ((q : Option (List ℕ)) → all_lines (clean_piece q) bytes ≡ map clean_line (onto_pieces q (pieces bytes)))
    → (if t then kept_bytes (clean_piece p) ∷ whole_lines None bytes else whole_lines
    (Some (with_byte (kept_bytes (clean_piece p)) b)) bytes)
    ++ line_of_piece (if t then last_piece None bytes else last_piece (Some (with_byte (kept_bytes (clean_piece p)) b))
    bytes)
    ≡ map clean_line (onto_pieces p (if t then [] ∷ pieces bytes else onto_first b (pieces bytes)))
at_byte None b bytes true rest = ap (λ ls. [] ∷ ls) (rest None)
at_byte (Some l) b bytes true rest = ap (λ m. clean_line m ∷ all_lines None bytes) (sym (append-nil l))
    ∙ ap (λ ls. clean_line (l ++ []) ∷ ls) (rest None)
at_byte p b bytes false rest =
    let kept : with_byte (kept_bytes (clean_piece p)) b ≡ clean_line (bytes_of p ++ b ∷ []) =
    ap (λ k. with_byte k b) (kept_bytes-clean_piece p) ∙ sym (clean_line-byte (bytes_of p) b) in
    ap (λ k. all_lines (Some k) bytes) kept ∙ rest (Some (bytes_of p ++ b ∷ []))
    ∙ ap (map clean_line) (sym (onto_pieces-first p b (pieces bytes)))

all_lines-clean_piece : (p : Option (List ℕ)) (bytes : List ℕ)
    → all_lines (clean_piece p) bytes ≡ map clean_line (onto_pieces p (pieces bytes))
all_lines-clean_piece None [] = refl
all_lines-clean_piece (Some l) [] = refl
all_lines-clean_piece p (b ∷ bytes) = at_byte p b bytes (b == 10) (λ q. all_lines-clean_piece q bytes)

-- the input lines are those that the bytes end, and a last piece that has begun
pub input_lines-cut : (bytes : List ℕ)
    → input_lines bytes ≡ whole_lines None bytes ++ line_of_piece (last_piece None bytes)
input_lines-cut bytes = clean_line-strip_all (pieces bytes) ∙ sym (all_lines-clean_piece None bytes)
