-- This file proves that what is stopped after n answers takes them one by one, and what its runs are.
-- Main lemma: `beginning_laws`.
use Rattle.std.proofs.Common.{◌≡◌, ℕ, zero, suc, ◌+◌, ◌-◌, ◌<◌, ◌≤◌, List, [], ◌∷◌, ◌++◌, length}
use Rattle.std.proofs.Common.{take, drop, Bool, true, false, inl, inr, refl, ap, sym, ◌∙◌, arith}
use Rattle.std.proofs.Common.{append_assoc, append-nil, length-append, length-drop}
use Rattle.std.specs.Prelude.{ℤ, nat_lt}
use Rattle.std.proofs.Math.Path.{fun_ext}
use Rattle.std.proofs.Math.Seq.{take-append-add, drop-append-add}
use Rattle.std.proofs.lemmas.Bool.{cases_lt, le-ltb, lt-ltb}
use Rattle.std.proofs.lemmas.List.{take-append-drop, take-append-le, drop-append-le, take_all, drop_all}
use Rattle.std.specs.List.{flat_map, filter}
use Rattle.ptb_answers.specs.Outcome.{Answers, Outcome, Done, Asks, Out, IsReader, bound_of}
use Rattle.ptb_answers.specs.Outcome.{bounds_after, is_answer, is_open, is_whole}
use Rattle.ptb_answers.proofs.PublicLemmas.{Came, came, whole_is}
use Rattle.ptb_answers.proofs.PublicLemmas.Came.{Gave, Asked, Refused}
use Rattle.ptb_explore.specs.Beginnings.{BeginningLaws, IsBeginning, stop, stopped}
use Rattle.ptb_explore.specs.Laws.{TreeLaws}
use Rattle.ptb_explore.specs.Listing.{text}
use Rattle.ptb_machine.specs.RunTree.{Front, Start, IsRun, answers_to, is_left, leaves, leaves_of, runs_after, tree}
use Rattle.ptb_explore.proofs.Lists.{IsIn}
use Rattle.ptb_explore.proofs.NextRuns.{left_begins}
use Rattle.ptb_explore.proofs.Order.{begins_is}
use Rattle.ptb_explore.proofs.Shares.{question, run_in, text_each}
use Rattle.ptb_explore.proofs.Tree.{tree_laws}

-- ---- what is stopped, by what was played

stop_asks : {A W : Type 0} (more : Bool) (later : Answers) (o : Outcome A W) (n : ℤ) (w : W)
    → stop more later o ≡ Asks n w → (more ≡ true) × (o ≡ Asks n w)
stop_asks more later (Done x rest) n w e = absurd cc
stop_asks true later (Asks m v) n w e =
    let bound : m ≡ n = ap bound_of e in
    let same : v ≡ w = cc in
    (refl, ap (λ b. Asks b v) bound ∙ ap (Asks n) same)
stop_asks false later (Asks m v) n w e = absurd cc
stop_asks more later (Out m v) n w e = absurd cc

stop_out : {A W : Type 0} (more : Bool) (later : Answers) (o : Outcome A W) (n : ℤ) (w : W)
    → stop more later o ≡ Out n w → o ≡ Out n w
stop_out more later (Done x rest) n w e = absurd cc
stop_out true later (Asks m v) n w e = absurd cc
stop_out false later (Asks m v) n w e = absurd cc
stop_out more later (Out m v) n w e = let bound : m ≡ n = cc in let same : v ≡ w = cc in
    ap (λ b. Out b v) bound ∙ ap (Out n) same

stop_open : {A W : Type 0} (more : Bool) (o : Outcome A W) → is_open o ≡ true → is_open (stop more [] o) ≡ true
stop_open more (Done x []) h = refl
stop_open more (Done x (k ∷ rest)) h = absurd cc
stop_open true (Asks n w) h = refl
stop_open false (Asks n w) h = refl
stop_open more (Out n w) h = absurd cc

open_stop : {A W : Type 0} (more : Bool) (o : Outcome A W) → is_open (stop more [] o) ≡ true → is_open o ≡ true
open_stop more (Done x []) h = refl
open_stop more (Done x (k ∷ rest)) h = absurd cc
open_stop true (Asks n w) h = refl
open_stop false (Asks n w) h = refl
open_stop more (Out n w) h = absurd cc

rest_is : {W : Type 0} (x y : Unit {0}) (a b : Answers) → ◌≡◌ {A = Outcome (Unit {0}) W} (Done x a) (Done y b) → a ≡ b
rest_is x y a b e = cc

module _ {A W : Type 0} (play : Answers → Outcome A W) (n : ℕ) where
  abbrev asking : ℤ → W → Outcome A W
  asking m w = Asks m w

  -- of at most n answers, all are played
  pub within_is : (q : Answers) → length q ≤ n → stopped n play q ≡ stop (nat_lt (length q) n) [] (play q)
  within_is q l = ap (λ d. stop (nat_lt (length q) n) d (play (take n q))) (drop_all n q l)
      ∙ ap (λ t. stop (nat_lt (length q) n) [] (play t)) (take_all n q l)

  pub asks_is : (q : Answers) (m : ℤ) (w : W) → stopped n play q ≡ Asks m w → (length q < n) × (play q ≡ Asks m w)
  asks_is q m w e =
      let s = stop_asks (nat_lt (length q) n) (drop n q) (play (take n q)) m w e in
      elim (cases_lt (length q) n) [
        | inl l ↦ (l, ap play (sym (take_all n q (omega arith))) ∙ s.1)
        | inr l ↦ let false_is : nat_lt (length q) n ≡ false = le-ltb (length q) n l in absurd cc
      ]

  pub open_within : (q : Answers) → length q ≤ n → is_open (stopped n play q) ≡ true → is_open (play q) ≡ true
  open_within q l h = open_stop (nat_lt (length q) n) (play q) (ap is_open (sym (within_is q l)) ∙ h)

  -- what was played is open, and so is what is stopped
  pub within_open : (q : Answers) → length q ≤ n → is_open (play q) ≡ true → is_open (stopped n play q) ≡ true
  within_open q l h = ap is_open (within_is q l) ∙ stop_open (nat_lt (length q) n) (play q) h

  -- the bounds of at most n answers are those of play
  bound_within : (q : Answers) → length q < n → bound_of (stopped n play q) ≡ bound_of (play q)
  bound_within q l = ap bound_of (within_is q (omega arith))
      ∙ ap (λ b. bound_of (stop b [] (play q))) (lt-ltb (length q) n l) ∙ bound_there (play q)
    where
      bound_there : (o : Outcome A W) → bound_of (stop true [] o) ≡ bound_of o
      bound_there (Done x rest) = refl
      bound_there (Asks m w) = refl
      bound_there (Out m w) = refl

  pub bounds_within : (q a : Answers) → length q + length a ≤ n
      → bounds_after (stopped n play) q a ≡ bounds_after play q a
  bounds_within q [] l = refl
  bounds_within q (k ∷ a) l =
      ap (λ b. b ∷ bounds_after (stopped n play) (q ++ k ∷ []) a) (bound_within q (omega arith))
      ∙ ap (λ bs. bound_of (play q) ∷ bs) (bounds_within (q ++ k ∷ []) a (omega (arith, length-append q (k ∷ []))))

  -- ---- with more answers

  take_more : (q b : Answers) → take n (q ++ b) ≡ take n q ++ take (n - length q) b
  take_more q b = elim (cases_lt (length q) n) [
    | inl l ↦
        let is : n ≡ length q + (n - length q) = omega arith in
        let all : take n q ≡ q = take_all n q (omega arith) in
        ap (λ m. take m (q ++ b)) is ∙ take-append-add q b (n - length q)
        ∙ ap (λ t. t ++ take (n - length q) b) (sym all)
    | inr l ↦
        let none : n - length q ≡ 0 = omega arith in
        take-append-le n q b l ∙ sym (append-nil (take n q)) ∙ ap (λ m. take n q ++ take m b) (sym none)
  ]

  drop_more : (q b : Answers) → take (n - length q) b ++ drop n (q ++ b) ≡ drop n q ++ b
  drop_more q b = elim (cases_lt (length q) n) [
    | inl l ↦
        let is : n ≡ length q + (n - length q) = omega arith in
        let rest : drop n (q ++ b) ≡ drop (n - length q) b =
        ap (λ m. drop m (q ++ b)) is ∙ drop-append-add q b (n - length q) in
        let none : drop n q ≡ [] = drop_all n q (omega arith) in
        ap (λ d. take (n - length q) b ++ d) rest ∙ take-append-drop (n - length q) b ∙ ap (λ d. d ++ b) (sym none)
    | inr l ↦
        let none : n - length q ≡ 0 = omega arith in
        ap (λ m. take m b ++ drop n (q ++ b)) none ∙ drop-append-le n q b l
  ]

  module _ (most : ℕ) (reads : IsReader play most) where
    more_out : (q b : Answers) (m : ℤ) (w : W) → stopped n play q ≡ Out m w → stopped n play (q ++ b) ≡ Out m w
    more_out q b m w e =
        let out : play (take n q) ≡ Out m w = stop_out (nat_lt (length q) n) (drop n q) (play (take n q)) m w e in
        let more : play (take n (q ++ b)) ≡ Out m w =
        ap play (take_more q b) ∙ reads.out (take n q) (take (n - length q) b) m w out in
        ap (stop (nat_lt (length (q ++ b)) n) (drop n (q ++ b))) more

    more_done : (q b rest : Answers) (x : Unit {0}) → stopped n play q ≡ Done x rest
        → stopped n play (q ++ b) ≡ Done x (rest ++ b)
    more_done q b rest x e = by_play (came (play (take n q)))
      where
        by_play : Came (play (take n q)) → stopped n play (q ++ b) ≡ Done x (rest ++ b)
        by_play (Gave y r is) =
            let here : rest ≡ r ++ drop n q =
            rest_is x tt rest (r ++ drop n q) (sym e ∙ ap (stop (nat_lt (length q) n) (drop n q)) is) in
            let more : play (take n (q ++ b)) ≡ Done y (r ++ take (n - length q) b) =
            ap play (take_more q b) ∙ reads.done (take n q) (take (n - length q) b) r y is in
            let parts : (r ++ take (n - length q) b) ++ drop n (q ++ b) ≡ rest ++ b =
            append_assoc r (take (n - length q) b) (drop n (q ++ b)) ∙ ap (λ d. r ++ d) (drop_more q b)
            ∙ sym (append_assoc r (drop n q) b) ∙ ap (λ d. d ++ b) (sym here) in
            ap (stop (nat_lt (length (q ++ b)) n) (drop n (q ++ b))) more ∙ ap (Done tt) parts
        by_play (Asked m w is) = elim (cases_lt (length q) n) [
          | inl l ↦
              let asks : stopped n play q ≡ Asks m w = ap (stop (nat_lt (length q) n) (drop n q)) is
              ∙ ap (λ s. stop s (drop n q) (asking m w)) (lt-ltb (length q) n l) in
              absurd cc
          | inr l ↦
              let done : stopped n play q ≡ Done tt (drop n q) = ap (stop (nat_lt (length q) n) (drop n q)) is
              ∙ ap (λ s. stop s (drop n q) (asking m w)) (le-ltb (length q) n l) in
              let here : rest ≡ drop n q = rest_is x tt rest (drop n q) (sym e ∙ done) in
              let long : n ≤ length (q ++ b) = omega (arith, length-append q b) in
              let more : play (take n (q ++ b)) ≡ Asks m w = ap play (take-append-le n q b l) ∙ is in
              ap (stop (nat_lt (length (q ++ b)) n) (drop n (q ++ b))) more
              ∙ ap (λ s. stop s (drop n (q ++ b)) (asking m w)) (le-ltb (length (q ++ b)) n long)
              ∙ ap (Done tt) (drop-append-le n q b l ∙ ap (λ d. d ++ b) (sym here))
        ]
        by_play (Refused m w is) = let out : stopped n play q ≡ Out m w =
            ap (stop (nat_lt (length q) n) (drop n q)) is in
            absurd cc

    spent : (q rest : Answers) (x : Unit {0}) → stopped n play q ≡ Done x rest → length q ≤ n + length rest
    spent q rest x e = by_play (came (play (take n q)))
      where
        by_play : Came (play (take n q)) → length q ≤ n + length rest
        by_play (Gave y r is) =
            let here : rest ≡ r ++ drop n q =
            rest_is x tt rest (r ++ drop n q) (sym e ∙ ap (stop (nat_lt (length q) n) (drop n q)) is) in
            omega (arith, ap length here, length-append r (drop n q), length-drop n q)
        by_play (Asked m w is) = elim (cases_lt (length q) n) [
          | inl l ↦ omega (arith, l)
          | inr l ↦
              let done : stopped n play q ≡ Done tt (drop n q) = ap (stop (nat_lt (length q) n) (drop n q)) is
              ∙ ap (λ s. stop s (drop n q) (asking m w)) (le-ltb (length q) n l) in
              let here : rest ≡ drop n q = rest_is x tt rest (drop n q) (sym e ∙ done) in
              omega (arith, ap length here, length-drop n q)
        ]
        by_play (Refused m w is) = let out : stopped n play q ≡ Out m w =
            ap (stop (nat_lt (length q) n) (drop n q)) is in
            absurd cc

    more_inside : (q : Answers) (m k : ℤ) (w : W) → stopped n play q ≡ Asks m w → is_answer m k ≡ true
        → is_open (stopped n play (q ++ k ∷ [])) ≡ true
    more_inside q m k w e h =
        let a = asks_is q m w e in
        within_open (q ++ k ∷ []) (omega (arith, a.0, length-append q (k ∷ []))) (reads.inside q m k w a.1 h)

    more_outside : (q : Answers) (m k : ℤ) (w : W) → stopped n play q ≡ Asks m w → is_answer m k ≡ false
        → stopped n play (q ++ k ∷ []) ≡ Out m w
    more_outside q m k w e h =
        let a = asks_is q m w e in
        within_is (q ++ k ∷ []) (omega (arith, a.0, length-append q (k ∷ [])))
        ∙ ap (stop (nat_lt (length (q ++ k ∷ [])) n) []) (reads.outside q m k w a.1 h)

    pub stopped_reads : IsReader (stopped n play) n
    stopped_reads = record {
      begins = within_open [] (omega arith) reads.begins;
      done = more_done;
      out = more_out;
      inside = more_inside;
      outside = more_outside;
      positive = λ q m w e. let a = asks_is q m w e in reads.positive q m w a.1;
      few = λ q m w e. (asks_is q m w e).0;
      spends = spent;
    }

    -- ---- its runs

    -- a run has at most n answers
    pub run_within : (u : Answers) → IsRun (stopped n play) u → length u ≤ n
    run_within u r = let d = whole_is (stopped n play u) r in let l = spent u [] d.0 d.1 in omega arith

    run_is : (u : Answers) → IsRun (stopped n play) u → IsBeginning n play u
    run_is u r = by_play (came (play u))
      where
        l : length u ≤ n
        l = run_within u r

        by_play : Came (play u) → IsBeginning n play u
        by_play (Gave x [] is) = inl (ap is_whole is, l)
        by_play (Gave x (k ∷ rest) is) = let e : is_whole (stopped n play u) ≡ false =
            ap is_whole (within_is u l ∙ ap (stop (nat_lt (length u) n) []) is) in
            absurd cc
        by_play (Asked m w is) = elim (cases_lt (length u) n) [
          | inl s ↦
              let asks : stopped n play u ≡ Asks m w = within_is u l ∙ ap (stop (nat_lt (length u) n) []) is
              ∙ ap (λ b. stop b [] (asking m w)) (lt-ltb (length u) n s) in
              let e : is_whole (stopped n play u) ≡ false = ap is_whole asks in absurd cc
          | inr s ↦ inr (omega (arith, l), (m, w, is))
        ]
        by_play (Refused m w is) = let e : is_whole (stopped n play u) ≡ false =
            ap is_whole (within_is u l ∙ ap (stop (nat_lt (length u) n) []) is) in
            absurd cc

    -- a run of play
    pub whole_run : (u : Answers) → length u ≤ n → IsRun play u → IsRun (stopped n play) u
    whole_run u l r = let d = whole_is (play u) r in
        ap is_whole (within_is u l ∙ ap (stop (nat_lt (length u) n) []) d.1)

    -- n answers that a question follows
    pub asking_run : (u : Answers) (m : ℤ) (w : W) → length u ≡ n → play u ≡ Asks m w → IsRun (stopped n play) u
    asking_run u m w l e =
        ap is_whole (within_is u (omega arith) ∙ ap (stop (nat_lt (length u) n) []) e
        ∙ ap (λ b. stop b [] (asking m w)) (le-ltb (length u) n (omega arith)))

    is_run : (u : Answers) → IsBeginning n play u → IsRun (stopped n play) u
    is_run u (inl r) = whole_run u r.1 r.0
    is_run u (inr a) = asking_run u a.1.0 a.1.1 a.0 a.1.2

    -- ---- the runs that begin with them

    no_members : (xs : List Answers) → ((a : Answers) → IsIn a xs → ⊥) → xs ≡ []
    no_members [] none = refl
    no_members (x ∷ xs) none = absurd (none x (inl refl))

    -- none begins with answers that are out of range
    none_out : (q : Answers) (f : Front) (m : ℤ) (w : W) → play q ≡ Out m w → runs_after play most q f ≡ []
    none_out q f m w e = no_members (runs_after play most q f) (λ a i.
        let r = run_in play most reads q f a i in
        let b = begins_is a q (left_begins q f a r.1) in
        let out : play a ≡ Out m w = ap play b.1 ∙ reads.out q b.0 m w e in
        let whole = whole_is (play a) r.0 in
        absurd cc)

    module _ (report : Answers → List ℕ) (f : Front) where
      abbrev share : Answers → List ℕ
      share u = text report (runs_after play most u f)

      one : (e : ℕ) (q rest : Answers) → stopped n play q ≡ Done tt rest
          → flat_map share (leaves (stopped n play) q e) ≡ share q
      one zero q rest h = ap (λ v. flat_map share (leaves_of q (λ _. []) v)) h ∙ append-nil (share q)
      one (suc e) q rest h = ap (λ v. flat_map share
          (leaves_of q (λ k. flat_map (λ j. leaves (stopped n play) (q ++ j ∷ []) e) (answers_to k)) v)) h
          ∙ append-nil (share q)

      none : (e : ℕ) (q : Answers) (m : ℤ) (w : W) → length q ≤ n → play q ≡ Out m w
          → flat_map share (leaves (stopped n play) q e) ≡ share q
      none zero q m w l h =
          ap (λ v. flat_map share (leaves_of q (λ _. []) v)) (within_is q l ∙ ap (stop (nat_lt (length q) n) []) h)
          ∙ sym (ap (text report) (none_out q f m w h))
      none (suc e) q m w l h =
          ap (λ v. flat_map share (leaves_of q (λ k. flat_map (λ j. leaves (stopped n play) (q ++ j ∷ []) e)
          (answers_to k)) v)) (within_is q l ∙ ap (stop (nat_lt (length q) n) []) h)
          ∙ sym (ap (text report) (none_out q f m w h))

      at_end : (q : Answers) → length q ≡ n → Came (play q) → flat_map share (leaves (stopped n play) q 0) ≡ share q
      at_end q l (Gave x rest h) =
          one 0 q (rest ++ []) (within_is q (omega arith) ∙ ap (stop (nat_lt (length q) n) []) h)
      at_end q l (Asked m w h) = one 0 q [] (within_is q (omega arith) ∙ ap (stop (nat_lt (length q) n) []) h
          ∙ ap (λ b. stop b [] (asking m w)) (le-ltb (length q) n (omega arith)))
      at_end q l (Refused m w h) = none 0 q m w (omega arith) h

      below : (e : ℕ) (q : Answers) → length q < n → Came (play q)
          → ((j : ℤ) → flat_map share (leaves (stopped n play) (q ++ j ∷ []) e) ≡ share (q ++ j ∷ []))
          → flat_map share (leaves (stopped n play) q (suc e)) ≡ share q
      below e q l (Gave x rest h) each =
          one (suc e) q (rest ++ []) (within_is q (omega arith) ∙ ap (stop (nat_lt (length q) n) []) h)
      below e q l (Asked m w h) each =
          let asks : stopped n play q ≡ Asks m w = within_is q (omega arith) ∙ ap (stop (nat_lt (length q) n) []) h
          ∙ ap (λ b. stop b [] (asking m w)) (lt-ltb (length q) n l) in
          ap (λ v. flat_map share
          (leaves_of q (λ k. flat_map (λ j. leaves (stopped n play) (q ++ j ∷ []) e) (answers_to k)) v)) asks
          ∙ text_each share (λ j. leaves (stopped n play) (q ++ j ∷ []) e) (answers_to m)
          ∙ ap (λ g. flat_map g (answers_to m)) (fun_ext each)
          ∙ sym (question play most reads q m w f h report)
      below e q l (Refused m w h) each = none (suc e) q m w (omega arith) h

      pub joined_from : (d : ℕ) (q : Answers) → length q + d ≡ n
          → flat_map share (leaves (stopped n play) q d) ≡ share q
      joined_from zero q l = at_end q (omega arith) (came (play q))
      joined_from (suc e) q l = below e q (omega arith) (came (play q))
          (λ j. joined_from e (q ++ j ∷ []) (omega (arith, length-append q (j ∷ []))))

    -- no run is left out before the first
    all_after : (xs : List Answers) → filter (is_left [] Start) xs ≡ xs
    all_after [] = refl
    all_after (x ∷ xs) = ap (λ s. x ∷ s) (all_after xs)

    pub beginning_laws : BeginningLaws play most n
    beginning_laws =
        let laws : TreeLaws (stopped n play) n = tree_laws (stopped n play) n stopped_reads in
        record {
          lists = λ u. (λ c. run_is u ((laws.runs u).0 c), λ b. (laws.runs u).1 (is_run u b));
          order = laws.order;
          apart = λ u later k c d. laws.apart u later k ((laws.runs u).0 c) ((laws.runs (u ++ k ∷ later)).0 d);
          whole_text = λ report. joined_from report Start n [] (omega arith)
              ∙ ap (text report) (all_after (tree play most));
        }
