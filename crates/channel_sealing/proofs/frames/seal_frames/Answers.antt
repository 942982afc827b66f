use Rattle.std.proofs.Common.{◌<◌, ◌∙◌, List, ℕ, Bool, length, get_or, [], Some, ap, sym, arith}
use Rattle.channel_sealing.specs.Frames.{end_after, frame_if, seal_all}
use Rattle.channel_sealing.proofs.FrameLaws.{walk_end_ends, walk_end_more, walk_end_stops, walk_ends, walk_more, walk_size, walk_stops}
use Rattle.channel_sealing.proofs.frames.seal_frames.Goals as goal

pub returns-then-not-seal_at-clause-answer : goal.returns-then-not-seal_at-clause-answer
returns-then-not-seal_at-clause-answer c =
    let within : c.loop-at.at < length c.loop-at.list.items = omega (arith, c.loop-at-test.true, c.len-at-end.ensures, c.loop-at.invariant.count) in
    let done : List ℕ = get_or c.seal_at.new.frames.items c.loop-at.at [] in
    ap (λ (frames : List (List ℕ)). seal_all c.args.seal.now c.args.confounder frames) (sym c.into_vec-list.ensures)
    ∙ sym c.loop-at.invariant.so_far
    ∙ walk_stops c.loop-at.list.items c.loop-at.at c.loop-at.seal c.seal_at.new.seal c.args.confounder done within
    (c.seal_at.ensures.answer ∙ ap (λ (d : Bool). frame_if d done c.seal_at.new.seal) c.if-not-seal_at.true)

pub loop-at-preserved : goal.loop-at-preserved
loop-at-preserved c =
    let within : c.loop-at.at < length c.loop-at.list.items = omega (arith, c.loop-at-test.true, c.len-at-end.ensures, c.loop-at.invariant.count) in
    let done : List ℕ = get_or c.seal_at.new.frames.items c.loop-at.at [] in
    let size = walk_size c.loop-at.list.items c.seal_at.new.frames.items c.loop-at.at done within c.seal_at.ensures.others c.seal_at.ensures.len in
    record {
      so_far =
          walk_more c.loop-at.list.items c.seal_at.new.frames.items c.loop-at.at c.loop-at.seal c.seal_at.new.seal c.args.confounder done within c.seal_at.ensures.others
          (c.seal_at.ensures.answer ∙ ap (λ (d : Bool). frame_if d done c.seal_at.new.seal) c.if-not-seal_at.false)
          ∙ c.loop-at.invariant.so_far;
      end =
          walk_end_more c.loop-at.list.items c.seal_at.new.frames.items c.loop-at.at c.loop-at.seal c.seal_at.new.seal c.args.confounder done within c.seal_at.ensures.others
          (c.seal_at.ensures.answer ∙ ap (λ (d : Bool). frame_if d done c.seal_at.new.seal) c.if-not-seal_at.false)
          ∙ c.loop-at.invariant.end;
      count = size.1 ∙ c.loop-at.invariant.count;
      size = size.0 ∙ c.loop-at.invariant.size;
    }

pub returns-clause-answer : goal.returns-clause-answer
returns-clause-answer c =
    ap (λ (frames : List (List ℕ)). seal_all c.args.seal.now c.args.confounder frames) (sym c.into_vec-list.ensures)
    ∙ sym c.loop-at.invariant.so_far
    ∙ walk_ends c.loop-at.list.items c.loop-at.at c.loop-at.seal c.args.confounder (omega (arith, c.loop-at-test.false, c.len-at-end.ensures, c.loop-at.invariant.count))
    ∙ ap (λ (frames : List (List ℕ)). Some (record { frames = frames; seal = c.loop-at.seal })) (sym c.from_vec.ensures)

pub returns-then-not-seal_at-clause-end : goal.returns-then-not-seal_at-clause-end
returns-then-not-seal_at-clause-end c =
    let within : c.loop-at.at < length c.loop-at.list.items = omega (arith, c.loop-at-test.true, c.len-at-end.ensures, c.loop-at.invariant.count) in
    let done : List ℕ = get_or c.seal_at.new.frames.items c.loop-at.at [] in
    walk_end_stops c.loop-at.list.items c.loop-at.at c.loop-at.seal c.seal_at.new.seal c.seal_at.new.seal c.args.confounder done within
    (c.seal_at.ensures.answer ∙ ap (λ (d : Bool). frame_if d done c.seal_at.new.seal) c.if-not-seal_at.true) c.seal_at.ensures.end
    ∙ c.loop-at.invariant.end
    ∙ ap (λ (frames : List (List ℕ)). end_after c.args.seal.now c.args.confounder frames) c.into_vec-list.ensures

pub returns-clause-end : goal.returns-clause-end
returns-clause-end c =
    sym (walk_end_ends c.loop-at.list.items c.loop-at.at c.loop-at.seal c.args.confounder (omega (arith, c.loop-at-test.false, c.len-at-end.ensures, c.loop-at.invariant.count)))
    ∙ c.loop-at.invariant.end
    ∙ ap (λ (frames : List (List ℕ)). end_after c.args.seal.now c.args.confounder frames) c.into_vec-list.ensures
