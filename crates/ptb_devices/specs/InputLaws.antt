-- This file proves the laws of an input that continues, as a line source has to keep them. The proofs, some of them by
-- `omega`, are in `specs/` because ghost members of `ReaderLines` state the laws, and may name only what is here.
-- Main lemma: `ReadsOn_more`.
--     none_known                       where no line can be given, none is left
--     ReadsOn_none, ReadsOn_more       no line was taken; lines were taken in two parts
--     Loses_none, Loses_more           the same for the lines alone
use Rattle.std.proofs.Common.{◌≡◌, ℕ, zero, suc, ◌+◌, ◌-◌, ◌≤◌, ◌<◌, ◌⊎◌, inl, inr, true, List, []}
use Rattle.std.proofs.Common.{◌∷◌, ◌++◌, length, take, Option, Some, None, IfSome, refl, sym, ap}
use Rattle.std.proofs.Common.{subst, ◌∙◌, append_assoc, append-nil, arith, length-append}
use Rattle.std.specs.Prelude.{option_map}
use Rattle.std.proofs.Math.Nat.{eq-or-lt_of_le}
use Rattle.std.proofs.Math.Seq.{take-nil}
use Rattle.std.proofs.lemmas.List.{take_all}
use Rattle.std.specs.Io.KnownBytes.{Consumes}
use Rattle.std.proofs.KnownBytes.{Consumes-nil, Consumes-trans}
use Rattle.ptb_text.specs.Device.{HasFailed, IsCounted}
use Rattle.ptb_text.proofs.PublicLemmas.{IsCounted_more, IsCounted_none}
use Rattle.ptb_devices.specs.declared.line_buffer.InputEnd.{InputEnd}
use Rattle.ptb_devices.specs.declared.line_buffer.InputEnd.TheVariants.{Open, Ended, Failed, Exceeded}
use Rattle.ptb_devices.specs.CutLines.{whole_lines, last_piece, line_of_piece, Cuts}
use Rattle.ptb_devices.specs.CutLineLaws.{whole_lines-append, last_piece-append}
use Rattle.ptb_devices.specs.Sources.{Loses, NoneLeft}
use Rattle.ptb_devices.specs.Inputs.{InputNow, open_piece, cut_at_end, ends_within}
use Rattle.ptb_devices.specs.Inputs.{lines_to_end, most_to_come, most_lines, known_lines}
use Rattle.ptb_devices.specs.Inputs.{IsReadAhead, ReadsOn, missed_in}

-- ---- lines, failures and bytes over several calls

pub Loses_none : (a : Option (List (List ℕ))) → Loses a a []
Loses_none None = tt
Loses_none (Some ls) = refl

pub Loses_more : (a b c : Option (List (List ℕ))) (xs ys : List (List ℕ)) → Loses a b xs → Loses b c ys
    → Loses a c (xs ++ ys)
Loses_more None b c xs ys p q = tt
Loses_more (Some ls) None c xs ys p q = absurd p
Loses_more (Some ls) (Some ms) None xs ys p q = absurd q
Loses_more (Some ls) (Some ms) (Some ns) xs ys p q = p ∙ ap (λ l. xs ++ l) q ∙ sym (append_assoc xs ys ns)

-- what failed in a part has failed in the whole
HasFailed_more : (f g h : ℕ) → g ≤ h → HasFailed f g → HasFailed f h
HasFailed_more f g h later (inl p) = inl (omega arith)
HasFailed_more f g h later (inr p) = inr p

HasFailed_later : (f g h : ℕ) → f ≤ g → g ≤ h → HasFailed g h → HasFailed f h
HasFailed_later f g h first second (inl p) = inl (omega arith)
HasFailed_later f g h first second (inr p) = at_least (eq-or-lt_of_le first) where
  at_least : (f ≡ g) ⊎ (f < g) → HasFailed f h
  at_least (inl q) = inr (q ∙ p)
  at_least (inr q) = inl (omega arith)

-- bytes that end within what was left of an input did so before
within_before : (a b : Option (List ℕ)) (taken : List ℕ) (k l : ℕ) → length taken + l ≡ k → Consumes a b taken
    → IfSome b (λ y. length y < l) → IfSome a (λ x. length x < k)
within_before None b taken k l size p q = tt
within_before (Some x) None taken k l size p q = absurd p
within_before (Some x) (Some y) taken k l size p q = omega (arith, ap length p, length-append taken y)

-- the first n of two lists one after the other
pub take-split : {A : Type 0} (n : ℕ) (xs ys : List A) → take n (xs ++ ys) ≡ take n xs ++ take (n - length xs) ys
take-split n [] ys = ap (λ k. take k ys) (let e : n ≡ n - 0 = omega arith in
    e) ∙ ap (λ l. l ++ take (n - 0) ys) (sym (take-nil n))
take-split zero (x ∷ xs) ys = ap (λ k. take k ys) (let e : 0 ≡ 0 - length (x ∷ xs) = omega arith in e)
take-split (suc n) (x ∷ xs) ys =
    ap (λ l. x ∷ l) (take-split n xs ys) ∙ ap (λ k. (x ∷ take n xs) ++ take k ys)
    (let e : n - length xs ≡ suc n - length (x ∷ xs) = omega arith in e)

-- ---- cutting over several calls

-- where q and the bytes w are left of a first cut, a second continues with them
Cuts_on : (p q r : Option (List ℕ)) (v w first second : List ℕ) (xs ys zs : List (List ℕ))
    → Cuts p (v ++ first) (xs ++ whole_lines q w) (last_piece q w)
    → Cuts q (w ++ second) (ys ++ zs) r → Cuts p (v ++ (first ++ second)) ((xs ++ ys) ++ zs) r
Cuts_on p q r v w first second xs ys zs c d =
    let all : v ++ (first ++ second) ≡ (v ++ first) ++ second = sym (append_assoc v first second) in (
      ap (whole_lines p) all ∙ whole_lines-append p (v ++ first) second
          ∙ ap (λ l. l ++ whole_lines (last_piece p (v ++ first)) second) c.0
          ∙ ap (λ s. (xs ++ whole_lines q w) ++ whole_lines s second) c.1
          ∙ append_assoc xs (whole_lines q w) (whole_lines (last_piece q w) second)
          ∙ ap (λ l. xs ++ l) (sym (whole_lines-append q w second) ∙ d.0) ∙ sym (append_assoc xs ys zs),
      ap (last_piece p) all ∙ last_piece-append p (v ++ first) second ∙ ap (λ s. last_piece s second) c.1
          ∙ sym (last_piece-append q w second) ∙ d.1,
    )

-- ---- an input of which no line can come

-- where no line can be given, none is left
pub none_known : (m : InputNow) → most_lines m.state ≡ 0 → NoneLeft (known_lines m)
none_known m none = by_state m.state.end m.state.waiting (open_piece m.state) refl refl refl m.bytes
  where
    by_bytes : (left : ℕ) (waiting : List ℕ) (p : Option (List ℕ)) (bytes : Option (List ℕ)) → length waiting ≡ 0
        → length (line_of_piece p) ≡ 0
        → NoneLeft (option_map (λ b. lines_to_end true p (waiting ++ cut_at_end Ended left b)) bytes)
    by_bytes left waiting p None e f = tt
    by_bytes left [] None (Some b) e f = refl
    by_bytes left [] (Some kept) (Some b) e f = absurd (omega (arith, f))
    by_bytes left (x ∷ waiting) p (Some b) e f = absurd (omega (arith, e))

    by_state : (end : InputEnd) (waiting : List ℕ) (p : Option (List ℕ)) → m.state.end ≡ end → m.state.waiting ≡ waiting
        → open_piece m.state ≡ p → (bytes : Option (List ℕ))
        → NoneLeft (option_map (λ b. lines_to_end (ends_within m.state.end m.state.left b) (open_piece m.state)
        (m.state.waiting ++ cut_at_end m.state.end m.state.left b)) bytes)
    by_state Ended waiting p e f g bytes =
        let none : most_to_come Ended m.state.left + length m.state.waiting
        + length (line_of_piece (open_piece m.state)) ≡ 0 = rw e at none in
        rw e (by_bytes m.state.left m.state.waiting (open_piece m.state) bytes (omega (arith, none))
        (omega (arith, none)))
    by_state Open waiting p e f g bytes = absurd (omega (arith, rw e at none))
    by_state Failed waiting p e f g bytes = absurd (omega (arith, rw e at none))
    by_state Exceeded waiting p e f g bytes = absurd (omega (arith, rw e at none))

-- ---- an input that continues

pub ReadsOn_none : (wanted : ℕ) (m : InputNow) → ReadsOn wanted m [] m
ReadsOn_none wanted m = record {
  loses = Loses_none (known_lines m);
  falls = omega arith;
  taken = [];
  consumed = Consumes-nil m.bytes;
  counted = IsCounted_none m.given;
  room = omega arith;
  ahead = inl refl;
  stays = λ _. (refl, refl);
  drained = λ d. d;
  asks = omega arith;
  cut = λ _. subst (λ (l : List ℕ). Cuts (open_piece m.state) l (whole_lines (open_piece m.state) m.state.waiting)
      (last_piece (open_piece m.state) m.state.waiting))
      (sym (ap (λ l. m.state.waiting ++ l) (take-nil (m.state.left - 1)) ∙ append-nil m.state.waiting)) (refl, refl);
  spare = λ room _. room;
  ended = λ e. inl e;
  later = omega arith;
  unfailed = λ _. refl;
  failed = λ e. inl e;
  exceeded = λ e. inl e;
}

module _ (first_wanted second_wanted wanted : ℕ) (m n o : InputNow) (xs ys : List (List ℕ))
    (first : ReadsOn first_wanted m xs n) (second : ReadsOn second_wanted n ys o) where
  -- what isn't true of the end isn't true before
  open_before : (end : InputEnd) → (end ≡ Open → ⊥) → (o.state.end ≡ end → ⊥) → n.state.end ≡ end → ⊥
  open_before end closed other e = other ((second.stays (λ h. closed (sym e ∙ h))).0 ∙ e)

  more_failed : (n.state.end ≡ Failed) ⊎ HasFailed n.failures o.failures
      → (m.state.end ≡ Failed) ⊎ HasFailed m.failures o.failures
  more_failed (inl e) = elim (first.failed e) [
    | inl p ↦ inl p
    | inr p ↦ inr (HasFailed_more m.failures n.failures o.failures second.later p)
  ]
  more_failed (inr p) = inr (HasFailed_later m.failures n.failures o.failures first.later second.later p)

  more_exceeded : (n.state.end ≡ Exceeded) ⊎ (o.state.left ≡ 0) → (m.state.end ≡ Exceeded) ⊎ (o.state.left ≡ 0)
  more_exceeded (inl e) = elim (first.exceeded e) [ inl p ↦ inl p | inr p ↦ inr (omega (arith, second.room, p)) ]
  more_exceeded (inr p) = inr p

  more_counted : IsCounted m.given o.given (length (first.taken ++ second.taken))
  more_counted = subst (λ k. IsCounted m.given o.given k) (sym (length-append first.taken second.taken))
      (IsCounted_more m.given n.given o.given (length first.taken) (length second.taken) first.counted second.counted)

  more_ended : (n.state.end ≡ Ended) ⊎ IfSome n.bytes (λ bytes. length bytes < n.state.left)
      → (m.state.end ≡ Ended) ⊎ IfSome m.bytes (λ bytes. length bytes < m.state.left)
  more_ended (inl e) = first.ended e
  more_ended (inr p) =
      inr (within_before m.bytes n.bytes first.taken m.state.left n.state.left first.room first.consumed p)

  ahead_first : second.taken ≡ [] → first_wanted ≤ length ys + wanted
      → (first.taken ≡ []) ⊎ IsReadAhead m.state first.taken (length xs + first_wanted)
      → (first.taken ++ second.taken ≡ []) ⊎ IsReadAhead m.state (first.taken ++ second.taken)
      (length (xs ++ ys) + wanted)
  ahead_first none fewer (inl e) = inl (ap (λ l. l ++ second.taken) e ∙ none)
  ahead_first none fewer (inr h) = inr (record {
    before = h.before;
    piece = h.piece;
    both = ap (λ l. first.taken ++ l) none ∙ append-nil first.taken ∙ h.both;
    some = h.some;
    fits = h.fits;
    needed = omega (arith, h.needed, fewer, length-append xs ys);
  })

  -- where the second part read, the first was left open
  ahead_second : second_wanted ≤ wanted → IsReadAhead n.state second.taken (length ys + second_wanted)
      → IsReadAhead m.state (first.taken ++ second.taken) (length (xs ++ ys) + wanted)
  ahead_second fewer h =
      let size : length second.taken ≡ length h.before + length h.piece =
      ap length h.both ∙ length-append h.before h.piece in
      let all : take (m.state.left - 1) first.taken ≡ first.taken =
      take_all (m.state.left - 1) first.taken (omega (arith, size, h.some, first.room, second.room)) in
      let going : n.state.end ≡ Ended → ⊥ =
      λ e. absurd (let none = ap length (second.stays (λ q. (let clash : Ended ≡ Open = sym e ∙ q in cc))).1 in
      omega (arith, none, size, h.some)) in
      let before : Cuts (open_piece m.state) (m.state.waiting ++ first.taken)
      (xs ++ whole_lines (open_piece n.state) n.state.waiting) (last_piece (open_piece n.state) n.state.waiting) =
      subst (λ (l : List ℕ). Cuts (open_piece m.state) (m.state.waiting ++ l) (xs ++ whole_lines (open_piece n.state)
      n.state.waiting) (last_piece (open_piece n.state) n.state.waiting)) all (first.cut going) in
      let following : List (List ℕ) = whole_lines (open_piece n.state) (n.state.waiting ++ h.before) in
      let both : whole_lines (open_piece m.state) (m.state.waiting ++ (first.taken ++ h.before))
      ≡ (xs ++ []) ++ following =
      (Cuts_on (open_piece m.state) (open_piece n.state) _ m.state.waiting n.state.waiting first.taken h.before xs
      [] following before (refl, refl)).0 in
      record {
        before = first.taken ++ h.before;
        piece = h.piece;
        both = ap (λ l. first.taken ++ l) h.both ∙ sym (append_assoc first.taken h.before h.piece);
        some = h.some;
        fits = h.fits;
        needed = omega (
          arith,
          ap length both,
          length-append (xs ++ []) following,
          length-append xs [],
          length-append xs ys,
          h.needed,
          fewer,
        );
      }

  more_ahead : first_wanted ≤ length ys + wanted → second_wanted ≤ wanted
      → (second.taken ≡ []) ⊎ IsReadAhead n.state second.taken (length ys + second_wanted)
      → (first.taken ++ second.taken ≡ []) ⊎ IsReadAhead m.state (first.taken ++ second.taken)
      (length (xs ++ ys) + wanted)
  more_ahead fewer less (inl none) = ahead_first none fewer first.ahead
  more_ahead fewer less (inr h) = inr (ahead_second less h)

  more_stays : (m.state.end ≡ Open → ⊥) → (o.state.end ≡ m.state.end) × (first.taken ++ second.taken ≡ [])
  more_stays closed =
      let one = first.stays closed in
      let two = second.stays (λ e. closed (sym one.0 ∙ e)) in
      (two.0 ∙ one.0, ap (λ l. l ++ second.taken) one.1 ∙ two.1)

  pub ReadsOn_then : first_wanted ≤ length ys + wanted → second_wanted ≤ wanted → ReadsOn wanted m (xs ++ ys) o
  ReadsOn_then fewer less = record {
    loses = Loses_more (known_lines m) (known_lines n) (known_lines o) xs ys first.loses second.loses;
    falls = omega (arith, first.falls, second.falls, length-append xs ys);
    taken = first.taken ++ second.taken;
    consumed = Consumes-trans m.bytes n.bytes o.bytes first.taken second.taken first.consumed second.consumed;
    counted = more_counted;
    room = omega (arith, first.room, second.room, length-append first.taken second.taken);
    ahead = more_ahead fewer less second.ahead;
    stays = more_stays;
    drained = λ d. second.drained (first.drained d);
    asks = omega (arith, first.asks, second.asks, length-append xs ys);
    cut = λ going.
        let size : n.state.left - 1 ≡ (m.state.left - 1) - length first.taken = omega (arith, first.room) in
        let both : take (m.state.left - 1) (first.taken ++ second.taken)
        ≡ take (m.state.left - 1) first.taken ++ take (n.state.left - 1) second.taken =
        take-split (m.state.left - 1) first.taken second.taken
        ∙ ap (λ k. take (m.state.left - 1) first.taken ++ take k second.taken) (sym size) in
        subst (λ (l : List ℕ). Cuts (open_piece m.state) (m.state.waiting ++ l) ((xs ++ ys) ++ whole_lines
        (open_piece o.state) o.state.waiting) (last_piece (open_piece o.state) o.state.waiting))
        (sym both) (Cuts_on (open_piece m.state) (open_piece n.state) _ m.state.waiting n.state.waiting
        (take (m.state.left - 1) first.taken) (take (n.state.left - 1) second.taken) xs ys
        (whole_lines (open_piece o.state) o.state.waiting) (first.cut (open_before Ended (λ e. cc) going))
        (second.cut going));
    spare = λ room other. second.spare (first.spare room (open_before Exceeded (λ e. cc) other)) other;
    ended = λ e. more_ended (second.ended e);
    later = omega (arith, first.later, second.later);
    unfailed = λ other. second.unfailed other ∙ first.unfailed (open_before Failed (λ e. cc) other);
    failed = λ e. more_failed (second.failed e);
    exceeded = λ e. more_exceeded (second.exceeded e);
  }

pub ReadsOn_more : (m n o : InputNow) (xs ys : List (List ℕ)) → ReadsOn (missed_in n.state) m xs n
    → ReadsOn (missed_in o.state) n ys o → ReadsOn (missed_in o.state) m (xs ++ ys) o
ReadsOn_more m n o xs ys first second =
    ReadsOn_then (missed_in n.state) (missed_in o.state) (missed_in o.state) m n o xs ys first second second.asks
    (omega arith)
