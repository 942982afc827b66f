-- Members by their numbers are who asks, where no controller asks another one: what is said of calls over the one holds
-- over the other. It serves `schedules_are_heard`.
use Rattle.std.proofs.Common.{◌≡◌, ℕ, Option, None, Some, refl, ap, sym, ◌∙◌}
use Rattle.wire_base.proofs.ListLaws.{no_some}
use Rattle.channel_client.specs.Effects.{View}
use Rattle.channel_client.specs.State.{Requester}
use Rattle.channel_events.specs.Requests.{CallsAreApart, Requests}
use Rattle.step_notes.specs.Records.{OfMember, OfTrust, RequesterId}
use Rattle.world_moves.specs.declared.state.State.{State}
use Rattle.domain_world.specs.Accepting.Runs.{seen_in, view_with}
use Rattle.domain_world.specs.Past.{controller_asked}
use Rattle.domain_world.proofs.Moves.NoTrustLaws.{NoneAsks}

-- how a member is seen; of a controller nothing is
abbrev pub member_view : (ℕ → Option View) → RequesterId → Option View
member_view views (OfMember member) = views member
member_view views (OfTrust controller trust) = None

-- members by their numbers are who asks
abbrev pub by_requester : Requests ℕ → Requests RequesterId
by_requester r = record { views = member_view r.views; marks = r.marks; drawn = r.drawn; uses = r.uses }

-- each requester is seen as its member is
pub seen_so : (r : Requests ℕ) (s : State) → NoneAsks s → ((k : ℕ) → r.views k ≡ seen_in s (OfMember k)) → (who : RequesterId) → (by_requester r).views who ≡ seen_in s who
seen_so r s none members (OfMember member) = members member
seen_so r s none members (OfTrust controller trust) =
    ap (λ (found : Option Requester). view_with (controller_asked (OfTrust controller trust) s) found) (sym (none controller trust))

-- who is seen is a member
record IsMember (views : ℕ → Option View) (who : RequesterId) (v : View) : Type 0 where
  member : ℕ
  is : who ≡ OfMember member
  at : views member ≡ Some v

is_member : (views : ℕ → Option View) (who : RequesterId) (v : View) → member_view views who ≡ Some v → IsMember views who v
is_member views (OfMember member) v at = record { member = member; is = refl; at = at }
is_member views (OfTrust controller trust) v at = absurd (no_some v at)

pub by_requester_apart : (r : Requests ℕ) → CallsAreApart r → CallsAreApart (by_requester r)
by_requester_apart r apart = record {
  made_before = apart.made_before;
  held_before = λ i v challenge at holds. let one = is_member r.views i v at in apart.held_before one.member v challenge one.at holds;
  apart = λ i j u v challenge at also holds too.
      let one = is_member r.views i u at in
      let other = is_member r.views j v also in
      one.is ∙ ap OfMember (apart.apart one.member other.member u v challenge one.at other.at holds too) ∙ sym other.is;
  opening = λ i v unit number timestamp c at opening there. let one = is_member r.views i v at in apart.opening one.member v unit number timestamp c one.at opening there;
  numbers = λ i v unit number c at holds asked. let one = is_member r.views i v at in apart.numbers one.member v unit number c one.at holds asked;
  distinct = apart.distinct;
  calls = λ i v at. let one = is_member r.views i v at in apart.calls one.member v one.at;
}
