-- This file proves how moves are put together.
-- Main lemma: `refines_part_then`.
use Rattle.std.proofs.Common.{◌≡◌, ℕ, Bool, List, [], ◌∷◌, ◌++◌, ℤ, refl, sym, ap, subst, ◌∙◌, append_assoc, append-nil}
use Rattle.std.proofs.Math.Path.{fun_ext}
use Rattle.ptb_answers.specs.Outcome.{Answers, Outcome, Asks, go_on}
use Rattle.ptb_answers.specs.Choices.{AsksFor}
use Rattle.ptb_expr.specs.Store.{Cells}
use Rattle.ptb_command.specs.State.{State}
use Rattle.ptb_command.specs.Actions.{Action, on_progress, and_then}
use Rattle.ptb_command.specs.Act.{is_fresh}
use Rattle.ptb_command.specs.Devices.{Exchange, no_exchange, both_exchanges}
use Rattle.ptb_command.specs.Traces.{Trace, Freshens, Fits, state_after, once_shown, Leaves, RefinesPart}
use Rattle.ptb_command.proofs.Exchanges.{exchanges_none, exchanges_then, follows_before}

-- ---- questions that are answered

asked_then : {A W : Type 0} (f g : Answers → Outcome A W) (ts : Answers) (bs : List ℤ) (us : Answers) (ds : List ℤ)
    → AsksFor f ts bs → (λ later. f (ts ++ later)) ≡ g → AsksFor g us ds → AsksFor f (ts ++ us) (bs ++ ds)
asked_then f g [] [] us ds h e k = subst (λ h. AsksFor h us ds) (sym e) k
asked_then f g [] (n ∷ bs) us ds h e k = absurd h
asked_then f g (a ∷ ts) [] us ds h e k = absurd h
asked_then f g (a ∷ ts) (n ∷ bs) us ds h e k = (h.0, asked_then (λ later. f (a ∷ later)) g ts bs us ds h.1 e k)

asked_under : {A B V W : Type 0} (into : Outcome A V → Outcome B W) (beside : V → W)
    → ((n : ℤ) (v : V) → into (Asks n v) ≡ Asks n (beside v)) → (f : Answers → Outcome A V) (ts : Answers) (bs : List ℤ)
    → AsksFor f ts bs → AsksFor (λ a. into (f a)) ts bs
asked_under into beside asks f [] [] h = tt
asked_under into beside asks f [] (n ∷ bs) h = absurd h
asked_under into beside asks f (a ∷ ts) [] h = absurd h
asked_under into beside asks f (a ∷ ts) (n ∷ bs) h =
    ((beside h.0.0, ap into h.0.1 ∙ asks n h.0.0), asked_under into beside asks (λ later. f (a ∷ later)) ts bs h.1)

-- ---- what is left

pub leaves_itself : {A W : Type 0} (f : Answers → Outcome A W) → Leaves f [] [] f
leaves_itself f = record { asked = tt; rest = refl }

pub leaves_then : {A W : Type 0} {f g h : Answers → Outcome A W} {ts us : Answers} {bs ds : List ℤ} → Leaves f ts bs g
    → Leaves g us ds h → Leaves f (ts ++ us) (bs ++ ds) h
leaves_then {f = f} {g = g} {h = h} {ts = ts} {us = us} {bs = bs} {ds = ds} p q = record {
  asked = asked_then f g ts bs us ds p.asked p.rest q.asked;
  rest = fun_ext (λ later. ap f (append_assoc ts us later)) ∙ ap (λ k. λ later. k (us ++ later)) p.rest ∙ q.rest;
}

-- in what asks where that asks
pub leaves_under : {A B V W : Type 0} (into : Outcome A V → Outcome B W) (beside : V → W)
    → ((n : ℤ) (v : V) → into (Asks n v) ≡ Asks n (beside v))
    → {f g : Answers → Outcome A V} {ts : Answers} {bs : List ℤ} → Leaves f ts bs g
    → Leaves (λ a. into (f a)) ts bs (λ a. into (g a))
leaves_under into beside asks {f = f} {g = g} {ts = ts} {bs = bs} p = record {
  asked = asked_under into beside asks f ts bs p.asked;
  rest = ap (λ h. λ a. into (h a)) p.rest;
}

pub leaves_to : {A W : Type 0} {f g : Answers → Outcome A W} {ts : Answers} {bs : List ℤ} (h : Answers → Outcome A W)
    → g ≡ h → Leaves f ts bs g → Leaves f ts bs h
leaves_to h e p = record { asked = p.asked; rest = p.rest ∙ e }

-- for every list of answers that begins with those that were taken
pub leaves_at : {A W : Type 0} {f g : Answers → Outcome A W} {ts : Answers} {bs : List ℤ} → Leaves f ts bs g
    → (later : Answers) → f (ts ++ later) ≡ g later
leaves_at p later = ap (λ h. h later) p.rest

-- ---- states

pub fits_after : (o n : Trace) (x : Exchange) (rest : List (List ℕ)) (S : State) → Freshens o.fresh x.bytes n.fresh
    → Fits o (x.given ++ rest) S → Fits n rest (state_after n x.bytes rest S)
fits_after o n x rest S fresh w = record { fresh = fresh S.shown w.fresh; cells = refl; lines = refl }

fits_assoc : (o : Trace) (ks ls rest : List (List ℕ)) (S : State) → Fits o ((ks ++ ls) ++ rest) S
    → Fits o (ks ++ (ls ++ rest)) S
fits_assoc o ks ls rest S w = record {
  fresh = w.fresh;
  cells = w.cells;
  lines = w.lines ∙ append_assoc ks ls rest;
}

pub after_nothing : (o : Trace) (rest : List (List ℕ)) (S : State) → Fits o rest S → S ≡ state_after o [] rest S
after_nothing o rest S w =
    ap (λ (c : Cells). record S { cells = c }) w.cells
    ∙ ap (λ (l : List (List ℕ)). record S { cells = o.cells; lines = l }) w.lines
    ∙ ap (λ (h : List ℕ). record S { cells = o.cells; lines = rest; shown = h }) (sym (append-nil S.shown))

-- the same once what is due is shown
pub once_nothing : (o : Trace) (pending : List ℕ) (rest : List (List ℕ)) (S : State) → Fits o rest S
    → once_shown pending S ≡ once_shown pending (state_after o [] rest S)
once_nothing o pending rest S w = ap (once_shown pending) (after_nothing o rest S w)

after_twice : (m n : Trace) (a b : List ℕ) (ls rest : List (List ℕ)) (S : State)
    → state_after n b rest (state_after m a ls S) ≡ state_after n (a ++ b) rest S
after_twice m n a b ls rest S = ap (λ (h : List ℕ). record S { cells = n.cells; lines = rest; shown = h })
    (append_assoc S.shown a b)

pub freshens_then : (a b c : Bool) (xs ys : List ℕ) → Freshens a xs b → Freshens b ys c → Freshens a (xs ++ ys) c
freshens_then a b c xs ys p q = λ shown e. ap is_fresh (sym (append_assoc shown xs ys)) ∙ q (shown ++ xs) (p shown e)

pub freshens_nothing : (a : Bool) → Freshens a [] a
freshens_nothing a = λ shown e. ap is_fresh (append-nil shown) ∙ e

-- ---- moves

-- what is the same in each state that has these cells
pub refines_part_same : {A : Type 0} (o : Trace) (f g : State → Answers → Outcome A State)
    → ((S : State) → S.cells ≡ o.cells → f S ≡ g S) → RefinesPart o o f g
refines_part_same o f g e = record {
  exchange = no_exchange;
  exchanges = exchanges_none o.devices;
  fresh = freshens_nothing o.fresh;
  leaves = λ S rest _ w.
      leaves_to (g (once_shown o.pending (state_after o [] rest S))) (e (once_shown o.pending S) w.cells
      ∙ ap g (once_nothing o o.pending rest S w)) (leaves_itself (f (once_shown o.pending S)));
}

pub refines_part_refl : {A : Type 0} (o : Trace) (f : State → Answers → Outcome A State) → RefinesPart o o f f
refines_part_refl o f = refines_part_same o f f (λ S w. refl)

pub refines_part_then : {A : Type 0} {o m n : Trace} {f g h : State → Answers → Outcome A State} → RefinesPart o m f g
    → RefinesPart m n g h → RefinesPart o n f h
refines_part_then {o = o} {m = m} {n = n} {f = f} {g = g} {h = h} a b = record {
  exchange = both_exchanges a.exchange b.exchange;
  exchanges = exchanges_then a.exchanges b.exchanges;
  fresh = freshens_then o.fresh m.fresh n.fresh a.exchange.bytes b.exchange.bytes a.fresh b.fresh;
  leaves = λ S rest f w.
      let lines = b.exchange.given ++ rest in
      let fits = fits_assoc o a.exchange.given b.exchange.given rest S w in
      leaves_to (h (once_shown n.pending (state_after n (a.exchange.bytes ++ b.exchange.bytes) rest S)))
      (ap (λ T. h (once_shown n.pending T)) (after_twice m n a.exchange.bytes b.exchange.bytes lines rest S))
      (leaves_then (a.leaves S lines (follows_before b.exchanges rest S.choose f) fits)
      (b.leaves (state_after m a.exchange.bytes lines S) rest f (fits_after o m a.exchange lines S a.fresh fits)));
}

-- under a function that leaves questions as they are
pub refines_part_into : {A B : Type 0} {o n : Trace} {f g : State → Answers → Outcome A State}
    (into : Outcome A State → Outcome B State)
    → ((k : ℤ) (T : State) → into (Asks k T) ≡ Asks k T) → RefinesPart o n f g
    → RefinesPart o n (λ S a. into (f S a)) (λ S a. into (g S a))
refines_part_into into asks m = record {
  exchange = m.exchange;
  exchanges = m.exchanges;
  fresh = m.fresh;
  leaves = λ S rest f w. leaves_under into (λ T. T) asks (m.leaves S rest f w);
}

-- before what comes next
pub refines_part_under : {A B : Type 0} {o n : Trace} {f g : Action A} (next : A → Action B) → RefinesPart o n f g
    → RefinesPart o n (and_then f next) (and_then g next)
refines_part_under next m = refines_part_into (λ o. go_on o (on_progress next)) (λ k T. refl) m
