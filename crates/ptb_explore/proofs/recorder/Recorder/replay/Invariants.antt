-- This file says which answers are planned after some of a list.
use Rattle.std.proofs.Common.{◌≡◌, take, vec_len}
use Rattle.ptb_answers.specs.AnswerText.{answers_of}
use Rattle.ptb_explore.specs.Recorders.{recorded}
use Rattle.ptb_explore.proofs.recorder.Recorder.replay.Given as goal

abbrev pub invariant-loop-item : goal.invariant-loop-item
invariant-loop-item l = record {
  answers : recorded l.self ≡ answers_of (take l.item-index l.list);
  planned : l.self.planned ≡ vec_len l.self.asked;
  given : l.self.given ≡ 0;
}
