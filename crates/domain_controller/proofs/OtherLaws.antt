-- Whose channel is changed.
use Rattle.std.proofs.Common.{◌≡◌, ℕ, false, List, Option, Some, None, refl, sym, subst, ◌∙◌, ap}
use Rattle.std.specs.List.{AllByRecursion}
use Rattle.wire_base.specs.Maps.{lookup}
use Rattle.wire_base.specs.Names.{same_name}
use Rattle.wire_base.proofs.MapLaws.{put_others, taken_others}
use Rattle.wire_base.proofs.NameLaws.{IsSameness-same_name}
use Rattle.authenticators.specs.SecureChannels.{SecureChannelState, passes_on, channel_by}
use Rattle.controller_calls.specs.declared.calls.ControllerCall.{ControllerCall}
use Rattle.domain_controller.specs.Laws.{calls_of, names_by, names, trust_calls_of, KeepsComputer, KeepsUnlessStopped, KeepsOthers}
use Rattle.controller_calls.specs.Desk.{Desk, put_pair, take_pair, put_channel, take_channel}
use Rattle.controller_calls.specs.Opening.{channel_for}
use Rattle.controller_calls.specs.Calls.{computer_named}
use Rattle.controller_calls.specs.declared.line.Line.{Line}
use Rattle.controller_calls.specs.declared.state.Computers.{Computers}
use Rattle.controller_calls.specs.declared.state.ChallengePair.{ChallengePair}
use Rattle.domain_controller.specs.declared.state.Running.{Running}
use Rattle.controller_calls.specs.declared.state.Work.{Work}
use Rattle.controller_calls.specs.declared.calls.JudgedCall.{JudgedCall}
use Rattle.controller_calls.proofs.DoneLaws.{channels_left}
use Rattle.controller_calls.proofs.OutcomeLaws.{JudgedComes, Passes, Refused, pair_for}
use Rattle.domain_controller.proofs.TrustWalkLaws.{IsMovedOn, TrustWalks, trust_leads}
use Rattle.domain_controller.proofs.WalkLaws.{DeskTrail, DeskWalks, behind_all, desk_leads, front_all}

-- ---- what is kept of computers

same : (n : List ℕ) (c : Computers) → KeepsComputer n c c
same n c = record { pair = refl; channel = refl }

both : (n : List ℕ) (one other third : Computers) → KeepsComputer n one other → KeepsComputer n other third → KeepsComputer n one third
both n one other third first second = record { pair = second.pair ∙ first.pair; channel = second.channel ∙ first.channel }

pair_put : (n computer : List ℕ) (pair : ChallengePair) (work : Work) → same_name computer n ≡ false → KeepsComputer n work.computers (put_pair computer pair work).computers
pair_put n computer pair work other =
    record { pair = put_others same_name computer n pair work.computers.pending IsSameness-same_name other; channel = refl }

pair_taken : (n computer : List ℕ) (work : Work) → same_name computer n ≡ false → KeepsComputer n work.computers (take_pair computer work).computers
pair_taken n computer work other =
    record { pair = taken_others same_name computer n work.computers.pending IsSameness-same_name other; channel = refl }

channel_put : (n computer : List ℕ) (channel : SecureChannelState) (work : Work) → same_name computer n ≡ false → KeepsComputer n work.computers (put_channel computer channel work).computers
channel_put n computer channel work other =
    record { pair = refl; channel = put_others same_name computer n channel work.computers.channels IsSameness-same_name other }

channel_taken : (n computer : List ℕ) (work : Work) → same_name computer n ≡ false → KeepsComputer n work.computers (take_channel computer work).computers
channel_taken n computer work other =
    record { pair = refl; channel = taken_others same_name computer n work.computers.channels IsSameness-same_name other }

-- ---- a call

-- a call that doesn't pass leaves each computer's channel; one that passes moves the one of the computer that it names
judged_keeps : (n : List ℕ) (c : JudgedCall) (name : List ℕ) (now : ℕ) (line : Line) (d after : Desk) → names_by (computer_named c) n ≡ false → JudgedComes c name now line d after →
    KeepsComputer n d.work.computers after.work.computers
judged_keeps n c name now line d after other (Refused how away) = record {
  pair = ap (λ (pending : List (List ℕ × ChallengePair)). lookup same_name n pending) away.pending;
  channel = channels_left c d.work.computers how after.work.computers.channels n away.why;
}
judged_keeps n c name now line d after other (Passes next is) =
    let moved : SecureChannelState = channel_by (passes_on next.channel next.given) next.channel next.given in
    let apart : same_name next.computer n ≡ false = sym (ap (λ (named : Option (List ℕ)). names_by named n) next.named) ∙ other in
    let taken : KeepsComputer n d.work.computers (take_channel next.computer d.work).computers = channel_taken n next.computer d.work apart in
    let put_back : KeepsComputer n (take_channel next.computer d.work).computers (put_channel next.computer moved (take_channel next.computer d.work)).computers =
    channel_put n next.computer moved (take_channel next.computer d.work) apart in
    record {
      pair = ap (λ (pending : List (List ℕ × ChallengePair)). lookup same_name n pending) is.pending;
      channel = ap (λ (channels : List (List ℕ × SecureChannelState)). lookup same_name n channels) is.channels ∙ put_back.channel ∙ taken.channel;
    }

-- ---- a step

abbrev Others : List ℕ → List ControllerCall → Type 0
Others n calls = AllByRecursion (λ (c : ControllerCall). names c n ≡ false) calls

abbrev OthersTrail : List ℕ → DeskTrail
OthersTrail n calls before after = Others n calls → KeepsComputer n before.work.computers after.work.computers

others_walks : (n name : List ℕ) (now : ℕ) → DeskWalks name now (OthersTrail n)
others_walks n name now = record {
  same = λ d others. same n d.work.computers;
  join = λ one two a b c first second others.
      both n a.work.computers b.work.computers c.work.computers (first (front_all (λ (c : ControllerCall). names c n ≡ false) one two others))
      (second (behind_all (λ (c : ControllerCall). names c n ≡ false) one two others));
  acts = λ d what quiet others. same n d.work.computers;
  unknown = λ line c server d others. same n d.work.computers;
  known = λ line c server d others. pair_put n c.computer (pair_for c server) d.work others.0;
  denied = λ line c status d others. pair_taken n c.computer d.work others.0;
  accepted = λ line c d opens others.
      both n d.work.computers (take_pair c.computer d.work).computers _ (pair_taken n c.computer d.work others.0)
      (channel_put n c.computer (channel_for opens.account opens.pair c) (take_pair c.computer d.work) others.0);
  judged = λ line c d after comes others. judged_keeps n c name now line d after others.0 comes;
}

-- a logon for a trust moves the channel of the computer that it names alone
moved_keeps : (n : List ℕ) (c : JudgedCall) (d after : Desk) → names_by (computer_named c) n ≡ false → IsMovedOn c d after → KeepsComputer n d.work.computers after.work.computers
moved_keeps n c d after other is =
    let moved : SecureChannelState = channel_by (passes_on is.next.channel is.next.given) is.next.channel is.next.given in
    let apart : same_name is.next.computer n ≡ false = sym (ap (λ (named : Option (List ℕ)). names_by named n) is.next.named) ∙ other in
    subst (λ (computers : Computers). KeepsComputer n d.work.computers computers) (sym is.computers)
    (both n d.work.computers (take_channel is.next.computer d.work).computers (put_channel is.next.computer moved (take_channel is.next.computer d.work)).computers
    (channel_taken n is.next.computer d.work apart) (channel_put n is.next.computer moved (take_channel is.next.computer d.work) apart))

trust_others_walk : (n name : List ℕ) (now : ℕ) → TrustWalks name now (OthersTrail n)
trust_others_walk n name now = record {
  base = others_walks n name now;
  moved = λ c d after is others. moved_keeps n c d after others.0 is;
  turns = λ d what is others. same n d.work.computers;
}

pub keeps_others : KeepsOthers
keeps_others = record {
  keeps = λ s running what now left n is others.
      desk_leads (λ stepped. KeepsUnlessStopped n running.computers stepped.state.running) (OthersTrail n) s what now left (others_walks n s.name now) (record {
        stopped = λ none. absurd (let never : None ≡ Some running = sym none ∙ is in cc);
        spent = λ other so. tt;
        taken = λ other after links rest so leads.
            let one : other ≡ running = let both : Some other ≡ Some running = sym so ∙ is in cc in
            subst (λ (r : Running). KeepsComputer n r.computers after.work.computers) one (leads (subst (λ (r : Running). Others n (calls_of what r.links)) (sym one) others));
      });
  trusting = λ s running what now left n is others.
      trust_leads (λ stepped. KeepsUnlessStopped n running.computers stepped.state.running) (OthersTrail n) s what now left (trust_others_walk n s.name now) (record {
        stopped = λ none. absurd (let never : None ≡ Some running = sym none ∙ is in cc);
        spent = λ other so. tt;
        taken = λ other after rest so leads.
            let one : other ≡ running = let both : Some other ≡ Some running = sym so ∙ is in cc in
            subst (λ (r : Running). KeepsComputer n r.computers after.parts.work.work.computers) one
            (leads (subst (λ (r : Running). Others n (trust_calls_of what r.links s.trusting.dialling)) (sym one) others));
      });
}
