-- The channels that a controller accepts at a unit, what it keeps of computers then, and which challenges of servers
-- wait. It serves `Proved.openings`.
use Rattle.std.proofs.Common.{◌≡◌, ◌≢◌, ◌⊎◌, ℕ, ◌==◌, ◌&&◌, Bool, true, false, List, ◌∷◌, Option, Some, None, AllPairs, refl, sym, ap, ap₂, subst, ◌∙◌, inl, inr}
use Rattle.std.specs.List.{AllByRecursion}
use Rattle.std.proofs.lemmas.Bool.{cases_Bool, eq-eqb, ne_eqb}
use Rattle.wire_base.specs.Maps.{IsMap, lookup, take_out}
use Rattle.wire_base.specs.Names.{SameName, same_name}
use Rattle.wire_base.proofs.MapLaws.{IsMap-put, IsMap-take_out}
use Rattle.wire_base.proofs.NameLaws.{IsSameness-same_name, same_name-Decides}
use Rattle.authenticators.specs.Channels.{ChannelIdentity, SameChannel}
use Rattle.authenticators.specs.SecureChannels.{SecureChannelState, channel_of}
use Rattle.outside.specs.Drawing.{IsRest}
use Rattle.outside.proofs.DrawLaws.{IsRest-later, IsRest-refl, IsRest-trans}
use Rattle.logon_stubs.specs.declared.calls.AuthCall.{AuthCall}
use Rattle.logon_stubs.specs.declared.calls.ChallengeCall.{ChallengeCall}
use Rattle.account_table.specs.AccountTable.{AccountTable}
use Rattle.domain_controller.specs.Machine.{Desk, account_for, answer_authenticate, answer_challenge, desk, take_pair}
use Rattle.controller_calls.specs.declared.line.Line.{Line}
use Rattle.controller_calls.specs.declared.state.Computers.{Computers}
use Rattle.controller_calls.specs.declared.state.Work.{Work}
use Rattle.outside.specs.declared.action.Judged.{Judged}
use Rattle.outside.specs.declared.action.Judged.TheVariants as judged
use Rattle.step_notes.specs.TrustNotes.{trust_judging_by}
use Rattle.step_notes.specs.ControllerNotes.{Where, accepting, channel_in, identity_by, judging_by, opening, passing}
use Rattle.step_notes.specs.KeptNotes.{Accepts, IsKeptBy, KeepsNoMore, WaitsAnew, WaitsIfKnown, keeps_in, waits_in}
use Rattle.step_notes.specs.Records.{ChannelAccepted, Judging, computer_named}
use Rattle.domain_world.specs.Claims.Openings.{IsLastAccepted, IsUnused, is_opened_for, last_accepted, newer_if}
use Rattle.wire_base.proofs.ListLaws.{all_weaker, no_some, not_both, pairs_first, some_is}
use Rattle.step_notes.proofs.Controllers.ComputerLaws.{lookup_named}
use Rattle.controller_calls.proofs.OutcomeLaws.{challenge_comes, opening_comes, pair_for}
use Rattle.domain_world.proofs.Judgements.SeedLaws.{AreApart, IsSpent}
use Rattle.domain_world.proofs.Judgements.SeedStepLaws.{apart_behind, spent_rest}

-- ---- what is known

-- Of what a controller keeps of computers: a challenge that waits is none of those that are left, opened no channel,
-- and waits for one computer; the channel that is kept is the one that was accepted last.
pub record AreOpened (accepted : List ChannelAccepted) (left : List (List ℕ)) (controller : ℕ) (computers : Computers) : Type 0 where
  pub map : IsMap same_name computers.pending
  pub waiting : (name server : List ℕ) → waits_in computers name ≡ Some server → IsSpent server left × IsUnused server accepted
  pub keeps : (name : List ℕ) (c : ChannelIdentity) → keeps_in controller computers name ≡ Some c → IsLastAccepted controller name c accepted
  pub one : (name other server : List ℕ) → waits_in computers name ≡ Some server → waits_in computers other ≡ Some server → SameName name other

-- of the openings that were accepted and the challenges that are left
pub record AreOrdered (accepted : List ChannelAccepted) (left : List (List ℕ)) : Type 0 where
  pub apart : AreApart left
  pub spent : AllByRecursion (λ (one : ChannelAccepted). IsSpent one.channel.server left) accepted
  pub once : AllPairs (λ (one other : ChannelAccepted). one.channel.server ≢ other.channel.server) accepted

pub ordered_rest : (accepted : List ChannelAccepted) (rest left : List (List ℕ)) → IsRest rest left → AreOrdered accepted left → AreOrdered accepted rest
ordered_rest accepted rest left is order = record {
  apart = apart_behind is.front rest (subst (λ (l : List (List ℕ)). AreApart l) (sym is.is) order.apart);
  spent = all_weaker (λ (one : ChannelAccepted). IsSpent one.channel.server left) (λ (one : ChannelAccepted). IsSpent one.channel.server rest) accepted
      (λ one spent. spent_rest rest left is one.channel.server spent) order.spent;
  once = order.once;
}

-- ---- a part of a step of a controller

-- What is known after it, where before it the challenges waited so: of its own computers; whatever waits then waited
-- before or was left; a challenge that neither was left nor waited here opened nothing more; and which one another
-- controller accepted last stays.
pub record Goes (accepted now : List ChannelAccepted) (left rest : List (List ℕ)) (controller : ℕ) (waited : List ℕ → Option (List ℕ)) (computers : Computers) : Type 0 where
  pub order : AreOrdered now rest
  pub kept : AreOpened now rest controller computers
  pub fewer : IsRest rest left
  pub came : (name server : List ℕ) → waits_in computers name ≡ Some server → (waited name ≡ Some server) ⊎ (IsSpent server left → ⊥)
  pub fresh : (server : List ℕ) → IsSpent server left → ((name : List ℕ) → waited name ≡ Some server → ⊥) → IsUnused server accepted → IsUnused server now
  pub others : (at : ℕ) (name : List ℕ) → at ≢ controller → last_accepted at name now ≡ last_accepted at name accepted

pub stays : (accepted : List ChannelAccepted) (left : List (List ℕ)) (controller : ℕ) (computers : Computers) → AreOrdered accepted left → AreOpened accepted left controller computers →
    Goes accepted accepted left left controller (λ name. waits_in computers name) computers
stays accepted left controller computers order kept = record {
  order = order;
  kept = kept;
  fewer = IsRest-refl left;
  came = λ name server at. inl at;
  fresh = λ server spent none unused. unused;
  others = λ at name differs. refl;
}

pub goes_on : (accepted middle now : List ChannelAccepted) (left rest less : List (List ℕ)) (controller : ℕ) (waited : List ℕ → Option (List ℕ)) (computers later : Computers) →
    Goes accepted middle left rest controller waited computers → Goes middle now rest less controller (λ name. waits_in computers name) later → Goes accepted now left less controller waited later
goes_on accepted middle now left rest less controller waited computers later first second = record {
  order = second.order;
  kept = second.kept;
  fewer = IsRest-trans less rest left second.fewer first.fewer;
  came = λ name server at. elim (second.came name server at) [
    | inl was ↦ first.came name server was
    | inr drawn ↦ inr (λ spent. drawn (spent_rest rest left first.fewer server spent))
  ];
  fresh = λ server spent none unused.
      second.fresh server (spent_rest rest left first.fewer server spent)
      (λ name at. elim (first.came name server at) [ inl was ↦ none name was | inr drawn ↦ drawn spent ]) (first.fresh server spent none unused);
  others = λ at name differs. second.others at name differs ∙ first.others at name differs;
}

-- ---- a call

-- nothing is kept that wasn't
pub no_more_goes : (accepted : List ChannelAccepted) (left : List (List ℕ)) (controller : ℕ) (before after : Computers) → KeepsNoMore controller before after → IsMap same_name after.pending →
    AreOrdered accepted left → AreOpened accepted left controller before → Goes accepted accepted left left controller (λ name. waits_in before name) after
no_more_goes accepted left controller before after same map order kept = record {
  order = order;
  kept = record {
    map = map;
    waiting = λ name server at. kept.waiting name server (same.waits name server at);
    keeps = λ name c at. kept.keeps name c (same.keeps name c at);
    one = λ name other server at also. kept.one name other server (same.waits name server at) (same.waits other server also);
  };
  fewer = IsRest-refl left;
  came = λ name server at. inl (same.waits name server at);
  fresh = λ server spent none unused. unused;
  others = λ at name differs. refl;
}

-- fewer are left
drawn_order : (accepted : List ChannelAccepted) (server : List ℕ) (left : List (List ℕ)) → AreOrdered accepted (server ∷ left) → AreOrdered accepted left
drawn_order accepted server left order = ordered_rest accepted left (server ∷ left) (IsRest-later server left left (IsRest-refl left)) order

module _ (accepted : List ChannelAccepted) (left : List (List ℕ)) (controller : ℕ) (computer server : List ℕ) (before after : Computers) (order : AreOrdered accepted (server ∷ left))
    (kept : AreOpened accepted (server ∷ left) controller before) where
  -- the challenge that was drawn opened nothing
  new_unused : IsUnused server accepted
  new_unused =
      all_weaker (λ (one : ChannelAccepted). IsSpent one.channel.server (server ∷ left)) (λ (one : ChannelAccepted). one.channel.server ≢ server) accepted (λ one spent same. spent.0 (sym same)) order.spent

  waits_new : WaitsAnew controller computer server before after → IsMap same_name after.pending → Goes accepted accepted (server ∷ left) left controller (λ name. waits_in before name) after
  waits_new is map = record {
    order = drawn_order accepted server left order;
    kept = record {
      map = map;
      waiting = λ name other at. elim (is.waits name other at) [
        | inl here ↦ subst (λ (s : List ℕ). IsSpent s left × IsUnused s accepted) (sym here.1) (order.apart.0, new_unused)
        | inr was ↦ let its = kept.waiting name other was in (its.0.1, its.1)
      ];
      keeps = λ name c at. kept.keeps name c (is.keeps name c at);
      one = λ name other s at also. elim (is.waits name s at) [
        | inl here ↦ elim (is.waits other s also) [
          | inl too ↦ here.0 ∙ sym too.0
          | inr was ↦ absurd ((kept.waiting other s was).0.0 (sym here.1))
        ]
        | inr was ↦ elim (is.waits other s also) [
          | inl too ↦ absurd ((kept.waiting name s was).0.0 (sym too.1))
          | inr both ↦ kept.one name other s was both
        ]
      ];
    };
    fewer = IsRest-later server left left (IsRest-refl left);
    came = λ name s at. elim (is.waits name s at) [ inl here ↦ inr (λ spent. spent.0 (sym here.1)) | inr was ↦ inl was ];
    fresh = λ s spent none unused. unused;
    others = λ at name differs. refl;
  }

  waits_nothing : after ≡ before → Goes accepted accepted (server ∷ left) left controller (λ name. waits_in before name) after
  waits_nothing same =
      subst (λ (x : Computers). Goes accepted accepted (server ∷ left) left controller (λ name. waits_in before name) x) (sym same) (record {
        order = drawn_order accepted server left order;
        kept = record {
          map = kept.map;
          waiting = λ name s at. let its = kept.waiting name s at in (its.0.1, its.1);
          keeps = kept.keeps;
          one = kept.one;
        };
        fewer = IsRest-later server left left (IsRest-refl left);
        came = λ name s at. inl at;
        fresh = λ s spent none unused. unused;
        others = λ at name differs. refl;
      })

  pub challenge_goes : (known : Bool) → WaitsIfKnown known controller computer server before after → IsMap same_name after.pending →
      Goes accepted accepted (server ∷ left) left controller (λ name. waits_in before name) after
  challenge_goes false is map = waits_nothing is
  challenge_goes true is map = waits_new is map

-- ---- an opening

-- one name in either case finds one channel
named_alike : (controller : ℕ) (computer name : List ℕ) (found : Option SecureChannelState) (channel c : ChannelIdentity) → SameName computer name → identity_by controller computer found ≡ Some channel →
    identity_by controller name found ≡ Some c → SameChannel channel c
named_alike controller computer name None channel c alike is also = absurd (no_some channel is)
named_alike controller computer name (Some state) channel c alike is also =
    subst (λ (x : ChannelIdentity). SameChannel x c) (some_is (channel_of controller computer state) channel is)
    (subst (λ (x : ChannelIdentity). SameChannel (channel_of controller computer state) x) (some_is (channel_of controller name state) c also)
    (record { controller = refl; computer = alike; secret = refl; client = refl; server = refl; flags = refl }))

name_kept : (controller : ℕ) (name : List ℕ) (found : Option SecureChannelState) (c : ChannelIdentity) → identity_by controller name found ≡ Some c → c.computer ≡ name
name_kept controller name None c is = absurd (no_some c is)
name_kept controller name (Some state) c is = ap ChannelIdentity.computer (sym (some_is (channel_of controller name state) c is))

module _ (accepted : List ChannelAccepted) (left : List (List ℕ)) (controller : ℕ) (computer : List ℕ) (one : ChannelAccepted) (before after : Computers) (is : Accepts controller computer one.channel before after)
    (map : IsMap same_name after.pending) (order : AreOrdered accepted left) (kept : AreOpened accepted left controller before) where
  -- whether an opening is for that computer
  by_test : (at : ℕ) (name : List ℕ) → is_opened_for at name one ≡ ((controller == at) && same_name name computer)
  by_test at name = ap₂ (λ (k : ℕ) (n : List ℕ). (k == at) && same_name name n) is.controller_is is.computer_is

  opened_here : (name : List ℕ) → same_name name computer ≡ true → is_opened_for controller name one ≡ true
  opened_here name same = by_test controller name ∙ ap (λ (b : Bool). b && same_name name computer) (eq-eqb controller controller refl) ∙ same

  opened_for_another : (name : List ℕ) → same_name name computer ≡ false → is_opened_for controller name one ≡ false
  opened_for_another name differs = by_test controller name ∙ ap (λ (b : Bool). b && same_name name computer) (eq-eqb controller controller refl) ∙ differs

  opened_elsewhere : (at : ℕ) (name : List ℕ) → at ≢ controller → is_opened_for at name one ≡ false
  opened_elsewhere at name differs = by_test at name ∙ ap (λ (b : Bool). b && same_name name computer) (ne_eqb controller at (λ same. differs (sym same)))

  unnamed : (name : List ℕ) → same_name name computer ≡ false → SameName computer name → ⊥
  unnamed name differs alike = not_both (same_name name computer) ((same_name-Decides name computer).1 (sym alike)) differs

  is_last : (name : List ℕ) (c : ChannelIdentity) → keeps_in controller after name ≡ Some c → IsLastAccepted controller name c (one ∷ accepted)
  is_last name c at = elim (cases_Bool (same_name name computer)) [
    | inl same ↦ record {
      one = one;
      last = ap (λ (b : Bool). newer_if b one (last_accepted controller name accepted)) (opened_here name same);
      same = named_alike controller computer name (lookup same_name computer after.channels) one.channel c (sym ((same_name-Decides name computer).0 same)) is.now
          (ap (identity_by controller name) (lookup_named name computer after.channels same) ∙ at);
    }
    | inr differs ↦ elim (is.kept name c at) [
      | inl alike ↦ absurd (unnamed name differs (subst (λ (n : List ℕ). SameName n name) is.computer_is
          (subst (λ (n : List ℕ). SameName one.channel.computer n) (name_kept controller name (lookup same_name name after.channels) c at) alike.computer)))
      | inr was ↦
          let its : IsLastAccepted controller name c accepted = kept.keeps name c was in
          record {
            one = its.one;
            last = ap (λ (b : Bool). newer_if b one (last_accepted controller name accepted)) (opened_for_another name differs) ∙ its.last;
            same = its.same;
          }
    ]
  ]

  -- what opened the channel waited for the computer
  waited : IsSpent one.channel.server left × IsUnused one.channel.server accepted
  waited = kept.waiting computer one.channel.server is.waited

  accepts_goes : Goes accepted (one ∷ accepted) left left controller (λ name. waits_in before name) after
  accepts_goes = record {
    order = record {
      apart = order.apart;
      spent = (waited.0, order.spent);
      once = pairs_first (λ (a b : ChannelAccepted). a.channel.server ≢ b.channel.server) one accepted
          (all_weaker (λ (other : ChannelAccepted). other.channel.server ≢ one.channel.server) (λ (other : ChannelAccepted). one.channel.server ≢ other.channel.server) accepted
          (λ other differs same. differs (sym same)) waited.1) order.once;
    };
    kept = record {
      map = map;
      waiting = λ name server at.
          let was = is.served name server at in
          let its = kept.waiting name server was.0 in
          (its.0, ((λ same. was.1 (kept.one name computer server was.0 (is.waited ∙ ap Some same))), its.1));
      keeps = is_last;
      one = λ name other server at also. kept.one name other server (is.served name server at).0 (is.served other server also).0;
    };
    fewer = IsRest-refl left;
    came = λ name server at. inl (is.served name server at).0;
    fresh = λ server spent none unused. ((λ same. none computer (is.waited ∙ ap Some same)), unused);
    others = λ at name differs. ap (λ (b : Bool). newer_if b one (last_accepted at name accepted)) (opened_elsewhere at name differs);
  }

-- ---- what waits has one entry a computer

pub challenge_map : (table : AccountTable) (line : Line) (c : ChallengeCall) (server : List ℕ) (work : Work) → IsMap same_name work.computers.pending →
    IsMap same_name (answer_challenge table line c server work).computers.pending
challenge_map table line c server work map =
    challenge_comes (λ (after : Desk). IsMap same_name after.work.computers.pending) line c server (desk table work) (record {
      unknown = λ is. map;
      known = λ is. IsMap-put same_name c.computer (pair_for c server) work.computers.pending IsSameness-same_name map;
    })

pub authenticate_map : (table : AccountTable) (line : Line) (c : AuthCall) (work : Work) → IsMap same_name work.computers.pending →
    IsMap same_name (answer_authenticate table line c work).computers.pending
authenticate_map table line c work map =
    let taken : IsMap same_name (take_out same_name c.computer work.computers.pending) = IsMap-take_out same_name c.computer work.computers.pending map in
    opening_comes (λ (later : Work). IsMap same_name later.computers.pending) (account_for table c) (lookup same_name c.computer work.computers.pending) line c (take_pair c.computer work)
    (record { denied = λ status fails none. taken; accepted = λ opens. taken })

-- ---- a unit

-- with the channel that was accepted, if one was
abbrev pub with_accepted : Option ChannelAccepted → Option ℕ → List ChannelAccepted → List ChannelAccepted
with_accepted None number accepted = accepted
with_accepted (Some one) number accepted = record one { reply = number } ∷ accepted

passing_none : (channel : Option ChannelIdentity) (j : Judging) → (passing channel j).accepted ≡ None
passing_none None j = refl
passing_none (Some channel) j = refl

pub judging_none : (passed : Bool) (j : Judging) → (judging_by passed j).accepted ≡ None
judging_none false j = refl
judging_none true j = passing_none (channel_in j.controller (computer_named j.asked) j.checks) j

pub trust_none : (how : Option Judged) (j : Judging) → (trust_judging_by how j).accepted ≡ None
trust_none None j = refl
trust_none (Some (judged.Passed status)) j = judging_none true j
trust_none (Some judged.Forwarded) j = refl
trust_none (Some (judged.Answered status)) j = refl
trust_none (Some judged.Barred) j = refl
trust_none (Some judged.NoChannel) j = refl

module _ (accepted : List ChannelAccepted) (w : Where) (d : Desk) where
  pub opening_goes : (found : Option ChannelIdentity) (number kind : ℕ) (computer : List ℕ) (reply : Option ℕ) (left : List (List ℕ)) (after : Computers) → IsKeptBy w.controller computer found d.work.computers after →
      IsMap same_name after.pending → AreOrdered accepted left → AreOpened accepted left w.controller d.work.computers →
      Goes accepted (with_accepted (opening found w number kind).accepted reply accepted) left left w.controller (λ name. waits_in d.work.computers name) after
  opening_goes None number kind computer reply left after is map order kept = no_more_goes accepted left w.controller d.work.computers after is.0 map order kept
  opening_goes (Some channel) number kind computer reply left after is map order kept =
      accepts_goes accepted left w.controller computer (record (accepting w number kind channel) { reply = reply }) d.work.computers after is map order kept
