-- Channels that are kept have types. It serves `kept_channels_have_kinds`.
use Rattle.std.proofs.Common.{ℕ, List, [], Option, subst, refl, sym, ap, ◌∙◌}
use Rattle.std.specs.List.{AllByRecursion}
use Rattle.authenticators.specs.SecureChannels.{SecureChannelState}
use Rattle.controller_calls.specs.ChannelKinds.{HasKind, HaveKinds}
use Rattle.controller_calls.specs.Desk.{Desk}
use Rattle.controller_calls.specs.Opening.{channel_for}
use Rattle.controller_calls.specs.declared.calls.JudgedCall.{JudgedCall}
use Rattle.controller_calls.specs.declared.state.Computers.{Computers}
use Rattle.controller_calls.specs.declared.line.Line.{Line}
use Rattle.controller_calls.proofs.ChannelKindLaws.{channels_have_kinds, judged_has, put_has}
use Rattle.controller_calls.proofs.DoneLaws.{does_what_passes}
use Rattle.domain_controller.specs.Laws.{HaveKindsAtWork, KeptHaveKinds}
use Rattle.domain_controller.specs.declared.state.Running.{Running}
use Rattle.domain_controller.proofs.TrustWalkLaws.{IsMovedOn, TrustWalks, trust_leads}
use Rattle.domain_controller.proofs.WalkLaws.{DeskTrail, DeskWalks, desk_leads}

abbrev KindsTrail : DeskTrail
KindsTrail calls before after = HaveKinds before.work.computers → HaveKinds after.work.computers

kinds_walks : (name : List ℕ) (now : ℕ) → DeskWalks name now KindsTrail
kinds_walks name now = record {
  same = λ d has. has;
  join = λ one two a b c first second has. second (first has);
  acts = λ d what quiet has. has;
  unknown = λ line c server d has. has;
  known = λ line c server d has. has;
  denied = λ line c status d has. has;
  accepted = λ line c d opens has. put_has c.computer (channel_for opens.account opens.pair c) d.work.computers.channels (c.channel, refl) has;
  judged = λ line c d after comes has. judged_has c name now line d after has comes;
}

abbrev KindsIn : List (List ℕ × SecureChannelState) → Type 0
KindsIn channels = AllByRecursion (λ (entry : List ℕ × SecureChannelState). HasKind entry.1) channels

no_line : Line
no_line = record { link = 0; call = 0; context = 0; limit = 0 }

-- a logon for a trust leaves the channels as any call that passes
moved_kinds : (c : JudgedCall) (d after : Desk) → IsMovedOn c d after → HaveKinds d.work.computers → HaveKinds after.work.computers
moved_kinds c d after is has =
    subst KindsIn ((does_what_passes.passed c [] 0 no_line d is.next).channels ∙ ap (λ (computers : Computers). computers.channels) (sym is.computers))
    (channels_have_kinds.judged c [] 0 no_line d has)

trust_kinds_walk : (name : List ℕ) (now : ℕ) → TrustWalks name now KindsTrail
trust_kinds_walk name now = record { base = kinds_walks name now; moved = moved_kinds; turns = λ d what is has. has }

pub kept_have_kinds : KeptHaveKinds
kept_have_kinds = record {
  first = λ table name. tt;
  stays = λ s what now left has.
      desk_leads (λ stepped. HaveKindsAtWork stepped.state.running) KindsTrail s what now left (kinds_walks s.name now) (record {
        stopped = λ none. has;
        spent = λ running is. tt;
        taken = λ running after links rest is leads. leads (subst (λ (found : Option Running). HaveKindsAtWork found) is has);
      });
  trusting_first = λ table name. tt;
  trusting_stays = λ s what now left has.
      trust_leads (λ stepped. HaveKindsAtWork stepped.state.running) KindsTrail s what now left (trust_kinds_walk s.name now) (record {
        stopped = λ none. has;
        spent = λ running is. tt;
        taken = λ running after rest is leads. leads (subst (λ (found : Option Running). HaveKindsAtWork found) is has);
      });
}
