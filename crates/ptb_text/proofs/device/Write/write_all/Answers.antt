-- This file answers what is left to prove of `Write::write_all`.
use Rattle.std.proofs.Common.{arith, rules, refl, subst}
use Rattle.ptb_text.proofs.GatheredBytes.{gathers_none}
use Rattle.ptb_text.proofs.TakenPieces.{gathers_rest, gathers_all, gathers_fault, sure_all, sure_more, sure_written}
use Rattle.ptb_text.proofs.WrittenTexts.{failed_once, fails}
use Rattle.ptb_text.proofs.device.Write.write_all.Goals as goal

pub loop-rest-init : goal.loop-rest-init
loop-rest-init g c = record {
  unfailed = refl;
  taken = gathers_none _ _;
  sure = λ k within was. subst (g.Self.Write.takes c.args.self.now) (omega arith) was;
}

pub loop-rest-preserved : goal.loop-rest-preserved
loop-rest-preserved g c = record {
  unfailed = search rules;
  taken = gathers_rest _ _ _ refl c.loop-rest.invariant.taken c.in_ok-taken.ensures.bytes;
  sure =
      sure_more _ _ c.loop-rest.invariant.taken c.loop-rest.invariant.sure
      (g.Self.Write.takes c.write.new.self) c.in_ok-taken.taken c.in_ok-taken.ensures.room c.in_ok-taken.ensures.sure;
}

pub returns-in_err-taken-clause-writes : goal.returns-in_err-taken-clause-writes
returns-in_err-taken-clause-writes g c =
    let counted = c.in_err-taken.ensures.count in
    fails _ _ _ c.from_residual.result _ c.from_residual.ensures.1
    (gathers_fault _ c.loop-rest.invariant.taken c.in_err-taken.ensures.fault)
    (failed_once _ _ _ _ c.loop-rest.invariant.unfailed counted.0 counted.1) c.in_err-taken.ensures.kind

pub returns-in_err-taken-clause-sure : goal.returns-in_err-taken-clause-sure
returns-in_err-taken-clause-sure g c =
    λ k within was. absurd
    (sure_written _ _ c.loop-rest.invariant.taken c.loop-rest.invariant.sure c.in_err-taken.ensures.sure k within was)

pub returns-clause-writes : goal.returns-clause-writes
returns-clause-writes g c = record {
  ok = gathers_all _ c.loop-rest.invariant.taken (search rules);
  fault = tt;
  failed = tt;
  kind = tt;
  unfailed = c.loop-rest.invariant.unfailed;
}

pub returns-clause-sure : goal.returns-clause-sure
returns-clause-sure g c = λ k within was. (
  refl,
  sure_all (g.Self.Write.takes c.args.self.now) (g.Self.Write.takes
      c.loop-rest.self) c.loop-rest.invariant.taken c.loop-rest.invariant.sure (search rules) k within was,
)
