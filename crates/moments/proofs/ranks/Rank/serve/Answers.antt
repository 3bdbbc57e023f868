use Rattle.std.proofs.Common.{ap, ◌∙◌, arith}
use Rattle.moments.specs.Ranks.{Serving, serving, serve_one}
use Rattle.moments.proofs.Pass.{pass_turn, pass_state, pass_list}
use Rattle.moments.proofs.Serve.{items_numbered, number_passed, a_served, b_served}
use Rattle.moments.proofs.ranks.Rank.serve.Goals as goal

pub loop-i-preserved : goal.loop-i-preserved
loop-i-preserved c = (
  omega (arith, c.loop-i.invariant.0, c.serve_event-n.ensures.most),
  (λ sound. c.serve_event-n.ensures.sound_a (c.loop-i.invariant.1 sound)),
  (λ sound. c.serve_event-n.ensures.sound_b (c.loop-i.invariant.2 sound)),
  pass_turn (serve_one c.args.self) (serving c.args.from c.args.chips.now.a c.args.chips.now.b) (serving c.loop-i.n c.loop-i.chips.a c.loop-i.chips.b) c.args.events.now c.loop-i.events c.loop-i.i _ _ _
      (omega arith) c.serve_event-n.ensures.turn c.loop-i.invariant.3,
)

pub returns : goal.returns
returns c =
    let k = c.args.self in
    let vs = c.args.events.now in
    let s0 = serving c.args.from c.args.chips.now.a c.args.chips.now.b in
    let s = serving c.loop-i.n c.loop-i.chips.a c.loop-i.chips.b in
    let whole = pass_state (serve_one k) s0 s vs c.loop-i.events c.loop-i.i (omega arith) c.loop-i.invariant.3 in
    record {
      a = ap (λ (t : Serving). t.a) whole ∙ a_served k s0 vs;
      b = ap (λ (t : Serving). t.b) whole ∙ b_served k s0 vs;
      list = pass_list (serve_one k) s0 s vs c.loop-i.events c.loop-i.i (omega arith) (omega arith) c.loop-i.invariant.3 ∙ items_numbered k s0 vs;
      next = ap (λ (t : Serving). t.number) whole ∙ number_passed k s0 vs;
      most = omega (arith, c.loop-i.invariant.0);
      sound_a = c.loop-i.invariant.1;
      sound_b = c.loop-i.invariant.2;
    }
