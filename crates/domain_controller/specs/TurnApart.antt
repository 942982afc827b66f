-- A controller at work, of which the channel of a trust is taken out for its turn (this project's own choice).
use Rattle.std.specs.Prelude.{ℕ}
use Rattle.std.specs.List.{insert, remove}
use Rattle.channel_turns.specs.Turning.{Turned}
use Rattle.domain_controller.specs.Forwarding.{after_ended}
use Rattle.domain_controller.specs.declared.trusting.Parts.{Parts}
use Rattle.domain_controller.specs.declared.turning.Beside.{Beside}

-- what it has beside that channel, the link of the turn and the actions
abbrev pub beside_of : ℕ → Parts → Beside
beside_of trust parts = record {
  computers = parts.work.work.computers;
  requesters = remove parts.work.queues.requesters trust;
  forwarded = parts.work.queues.forwarded;
  links = parts.links;
}

-- the channel is at its place again, and what follows of its turn is done, where it ended
abbrev pub put_back : ℕ → Turned → Beside → Parts
put_back trust turned beside = record {
  work = after_ended turned.1 trust (record {
    work = record { computers = beside.computers; actions = turned.0.actions };
    queues = record { requesters = insert beside.requesters trust turned.0.channel; forwarded = beside.forwarded };
  });
  links = beside.links;
  turn_of = trust;
  dialling = turned.0.dialling;
}
