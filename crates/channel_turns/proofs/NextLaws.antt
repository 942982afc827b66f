-- The next turn of a channel. It serves `next_turns_are_known`.
use Rattle.std.proofs.Common.{[], ◌∷◌, ap, ap₂, ◌∙◌}
use Rattle.channel_client.specs.Machine.{needs_challenge}
use Rattle.channel_client.proofs.TurnLaws.{one_turn}
use Rattle.channel_turns.specs.Dials.{next_by}
use Rattle.channel_turns.specs.Laws.{NextTurnsKnown}

pub next_turns : NextTurnsKnown
next_turns = record {
  none = λ now channel left can. ap (λ can. next_by can (needs_challenge channel.standing) now channel left) can;
  plain = λ now channel left can needs. ap₂ (λ can needs. next_by can needs now channel left) can needs;
  drawn = λ now channel challenge left can needs. ap₂ (λ can needs. next_by can needs now channel (challenge ∷ left)) can needs;
  spent = λ now channel can needs. ap₂ (λ can needs. next_by can needs now channel []) can needs;
  out = λ channel timestamp challenge can. (
    one_turn.start channel timestamp challenge ∙ can,
    (one_turn.started channel timestamp challenge can).1,
  );
}
