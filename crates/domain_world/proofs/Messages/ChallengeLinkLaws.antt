-- What bytes come to at a member: a CHALLENGE goes out on a link on which nothing was bound, and only one; and a
-- message that is taken is for the CHALLENGE of its link. It serves `messages_are_taken_as_sent`.
use Rattle.std.proofs.Common.{◌≡◌, ◌≢◌, ℕ, true, false, List, [], ◌∷◌, ◌++◌, ◌⊎◌, inl, inr, Option, Some, None, Ok, Err, refl, sym, subst}
use Rattle.std.specs.Prelude.{flat_map}
use Rattle.std.proofs.lemmas.List.{flat_map_more}
use Rattle.outside.specs.declared.event.Event.TheVariants as event
use Rattle.outside.specs.Machine.{left_by}
use Rattle.rpc_units.specs.Stream.{Cut, cut_stream}
use Rattle.rpc_units.specs.declared.unit.Unit.{Unit as RpcUnit}
use Rattle.end_links.specs.Serving.{ServedPart, served_cut, ServedUnit, served_units}
use Rattle.end_links.proofs.KeepLaws.{comes_to, unit_served}
use Rattle.member_server.specs.Machine.{serve_dialled, step_of, work_of}
use Rattle.member_server.specs.Outcomes.{after_link, at_link, keep_link, without_link}
use Rattle.member_server.specs.State.{State as MemberState}
use Rattle.member_server.specs.Units.{bound_unit, is_fresh, link_server, unit_by}
use Rattle.member_server.specs.Work.{Served}
use Rattle.member_server.specs.declared.state.AtLink.{AtLink}
use Rattle.member_server.specs.declared.state.Phase.{Phase}
use Rattle.member_server.specs.declared.state.Phase.TheVariants as phase
use Rattle.member_server.specs.declared.state.Talk.{Talk}
use Rattle.member_server.specs.declared.state.Work.{Work}
use Rattle.member_server.proofs.LinkView.{UnitView, Serves, Closes, Naks, Spends, Challenges, bound_view, unit_view}
use Rattle.member_server.proofs.StepFrame.{WorkFact}
use Rattle.step_notes.specs.MemberNotes.{LinkAt, challenge_after, challenge_note, link_units, message_after, message_note}
use Rattle.step_notes.specs.Records.{ChallengeSent, MessageTaken}
use Rattle.step_notes.specs.Served.{talk_after}
use Rattle.step_notes.proofs.Members.LinkBytesLaws.{bytes_hear, part_so, units_then}
use Rattle.step_notes.proofs.Members.UnservedLaws.{HasServed, IfUnserved, IfUnservedAfter, IfUnservedPart, LinksIn, Unserved, WorkLinks, bound_serves, dialled_known, found_known, kept_known, links_so, none_so, phase_so, taken_known}
use Rattle.step_notes.proofs.ServedLaws.{StaysBeside, served_beside}
use Rattle.domain_world.proofs.Messages.ChallengeReadLaws.{AreTakenWith, IsReadAs, IsTakenWith, read_again, taken_reads, view_with}
use Rattle.domain_world.proofs.Challenges.LinkUnitLaws.{unit_at}
use Rattle.domain_world.proofs.Challenges.OwnLinkLaws.{served_bound}
use Rattle.domain_world.proofs.Moves.LeftLaws.{AreEights}
use Rattle.wire_base.proofs.AllLaws.{all_join}

-- ---- how far a link is

-- something where nothing is bound, and of the challenge and the flags where a CHALLENGE was sent
abbrev pub IsSoFar : Type 0 → (List ℕ → ℕ → Type 0) → Phase → Type 0
IsSoFar Free Sent phase.Fresh = Free
IsSoFar Free Sent (phase.Challenged bound challenge flags) = Sent challenge flags
IsSoFar Free Sent (phase.Asked bound place held) = Unit {0}
IsSoFar Free Sent (phase.In on) = Unit {0}
IsSoFar Free Sent (phase.Out bound status) = Unit {0}

pub so_far : (Free More : Type 0) (Sent Other : List ℕ → ℕ → Type 0) → (Free → More) → ((challenge : List ℕ) (flags : ℕ) → Sent challenge flags → Other challenge flags) → (p : Phase) →
    IsSoFar Free Sent p → IsSoFar More Other p
so_far Free More Sent Other so also phase.Fresh known = so known
so_far Free More Sent Other so also (phase.Challenged bound challenge flags) known = also challenge flags known
so_far Free More Sent Other so also (phase.Asked bound place held) known = tt
so_far Free More Sent Other so also (phase.In on) known = tt
so_far Free More Sent Other so also (phase.Out bound status) known = tt

said_more : (Known More : Phase → Type 0) → ((p : Phase) → Known p → More p) → (said : Option Talk) → IfUnservedAfter Known said → IfUnservedAfter More said
said_more Known More so None known = tt
said_more Known More so (Some talk) known = phase_so (Known talk.phase) (More talk.phase) (so talk.phase) talk.phase known

-- a CHALLENGE that was sent, read as one of that challenge and those flags
abbrev pub ReadOf : ChallengeSent → List ℕ → ℕ → Type 0
ReadOf sent challenge flags = IsReadAs sent.bytes challenge flags

-- ---- the units of a stream

-- What the units of a link come to, by what was sent: no CHALLENGE, and each message that was taken is for what was
-- sent before; or one, on a link on which nothing was bound, and each message is for it.
abbrev pub Comes : LinkAt → Type 0 → (List ℕ → ℕ → Type 0) → List ChallengeSent → List MessageTaken → ServedPart AtLink Talk → Type 0
Comes w Free Sent [] messages part = AreTakenWith Sent messages × IfUnservedPart (IsSoFar Free Sent) part
Comes w Free Sent (one ∷ []) messages part =
    Free × (one.link ≡ w.link) × AreTakenWith (ReadOf one) messages × IfUnservedPart (IsSoFar ⊥ (ReadOf one)) part
Comes w Free Sent (one ∷ other ∷ more) messages part = ⊥

-- no message is taken while nothing is bound
abbrev pub NoneFresh : List MessageTaken → Option Talk → Type 0
NoneFresh messages None = Unit {0}
NoneFresh messages (Some talk) = is_fresh talk.phase ≡ true → messages ≡ []

abbrev pub NoneFreshPart : List MessageTaken → ServedPart AtLink Talk → Type 0
NoneFreshPart messages (Err why) = Unit {0}
NoneFreshPart messages (Ok part) = NoneFresh messages part.value.1

said_none : (said : Option Talk) → NoneFresh [] said
said_none None = tt
said_none (Some talk) = λ fresh. refl

part_none : (part : ServedPart AtLink Talk) → NoneFreshPart [] part
part_none (Err why) = tt
part_none (Ok part) = said_none part.value.1

served_none : (messages : List MessageTaken) (said : Option Talk) → HasServed said → NoneFresh messages said
served_none messages None served = tt
served_none messages (Some talk) served = λ fresh. let bound : is_fresh talk.phase ≡ false = served_bound talk.phase served in absurd cc

module _ (w : LinkAt) (Free : Type 0) (Sent : List ℕ → ℕ → Type 0) where
  abbrev ComesSo : List ChallengeSent → List MessageTaken → ServedPart AtLink Talk → Type 0
  ComesSo sent messages part = Comes w Free Sent sent messages part × NoneFreshPart messages part × AreEights (left_by part)

  -- behind a unit where nothing was bound
  view_comes : {bytes : List ℕ} {joiner : Option RpcUnit} (at : AtLink) {left : List (List ℕ)} {part : ServedPart AtLink Talk} → UnitView bytes joiner at phase.Fresh left part →
      Free → AreEights left → Comes w Free Sent (challenge_after (talk_after part) w at left) [] part × AreEights (left_by part)
  view_comes at (Serves (Closes cause may)) free eights = ((tt, tt), eights)
  view_comes at (Naks call) free eights = ((tt, free), eights)
  view_comes at Spends free eights = ((tt, tt), tt)
  view_comes {bytes = bytes} at (Challenges offer call receive contexts challenge taken) free eights = (
    (
      free,
      refl,
      tt,
      read_again at.logons.plan challenge offer.flags (taken_reads bytes at.logons.plan offer call receive contexts challenge taken eights.0),
    ),
    eights.1,
  )

  fresh_comes : (sent : List ChallengeSent) (messages : List MessageTaken) (bytes : List ℕ) (joiner : Option RpcUnit) (at : AtLink) (left : List (List ℕ)) (part : ServedPart AtLink Talk) →
      UnitView bytes joiner at phase.Fresh left part → ComesSo sent messages (comes_to at (Some (record { joiner = joiner; phase = phase.Fresh })) left) →
      ComesSo (sent ++ challenge_after (talk_after part) w at left) (messages ++ []) part
  fresh_comes [] messages bytes joiner at left part view comes =
      let own = view_comes at view comes.0.1 comes.2 in
      subst (λ (m : List MessageTaken). ComesSo (challenge_after (talk_after part) w at left) (m ++ []) part) (sym (comes.1 refl)) (own.0, part_none part, own.1)
  fresh_comes (one ∷ []) messages bytes joiner at left part view comes = absurd comes.0.3
  fresh_comes (one ∷ other ∷ more) messages bytes joiner at left part view comes = absurd comes.0

  -- a unit where something was bound, of which that was taken
  taken_comes : (sent : List ChallengeSent) (messages own : List MessageTaken) (p : Phase) (bytes : List ℕ) (joiner : Option RpcUnit) (at : AtLink) (left : List (List ℕ)) →
      ((More : Type 0) (Other : List ℕ → ℕ → Type 0) → IfUnserved (IsSoFar More Other p) p → AreTakenWith Other own) →
      Comes w Free Sent sent messages (comes_to at (Some (record { joiner = joiner; phase = p })) left) →
      Comes w Free Sent (sent ++ []) (messages ++ own) (unit_by false p bytes joiner at left)
  taken_comes [] messages own p bytes joiner at left all comes = (
    all_join (λ (one : MessageTaken). IsTakenWith Sent one.bytes one.logon) messages own comes.0 (all Free Sent comes.1),
    none_so (IsSoFar Free Sent) (bound_unit p bytes joiner at).1 (bound_serves p bytes joiner at),
  )
  taken_comes (one ∷ []) messages own p bytes joiner at left all comes = (
    comes.0,
    comes.1,
    all_join (λ (taken : MessageTaken). IsTakenWith (ReadOf one) taken.bytes taken.logon) messages own comes.2 (all ⊥ (ReadOf one) comes.3),
    none_so (IsSoFar ⊥ (ReadOf one)) (bound_unit p bytes joiner at).1 (bound_serves p bytes joiner at),
  )
  taken_comes (one ∷ other ∷ more) messages own p bytes joiner at left all comes = absurd comes

  bound_comes : (sent : List ChallengeSent) (messages own : List MessageTaken) (p : Phase) (bytes : List ℕ) (joiner : Option RpcUnit) (at : AtLink) (left : List (List ℕ)) →
      ((More : Type 0) (Other : List ℕ → ℕ → Type 0) → IfUnserved (IsSoFar More Other p) p → AreTakenWith Other own) →
      ComesSo sent messages (comes_to at (Some (record { joiner = joiner; phase = p })) left) → ComesSo (sent ++ []) (messages ++ own) (unit_by false p bytes joiner at left)
  bound_comes sent messages own p bytes joiner at left all comes =
      (taken_comes sent messages own p bytes joiner at left all comes.0, served_none (messages ++ own) (bound_unit p bytes joiner at).1 (bound_serves p bytes joiner at), comes.2)

  unit_comes : (sent : List ChallengeSent) (messages : List MessageTaken) (p : Phase) (bytes : List ℕ) (joiner : Option RpcUnit) (at : AtLink) (left : List (List ℕ)) →
      ComesSo sent messages (comes_to at (Some (record { joiner = joiner; phase = p })) left) →
      ComesSo (sent ++ challenge_note w (unit_at (is_fresh p) p bytes joiner at left)) (messages ++ message_note w (unit_at (is_fresh p) p bytes joiner at left))
      (unit_by (is_fresh p) p bytes joiner at left)
  unit_comes sent messages phase.Fresh bytes joiner at left comes =
      fresh_comes sent messages bytes joiner at left (unit_by true phase.Fresh bytes joiner at left) (unit_view bytes joiner at phase.Fresh left) comes
  unit_comes sent messages (phase.Challenged bound challenge flags) bytes joiner at left comes =
      let served : Served = bound_unit (phase.Challenged bound challenge flags) bytes joiner at in
      bound_comes sent messages (message_after served.1 (Some served.0) w bytes) (phase.Challenged bound challenge flags) bytes joiner at left
      (λ More Other known. view_with Other w bytes at (bound_view bytes joiner at (phase.Challenged bound challenge flags)) known) comes
  unit_comes sent messages (phase.Asked bound place held) bytes joiner at left comes = bound_comes sent messages [] (phase.Asked bound place held) bytes joiner at left (λ More Other known. tt) comes
  unit_comes sent messages (phase.In on) bytes joiner at left comes = bound_comes sent messages [] (phase.In on) bytes joiner at left (λ More Other known. tt) comes
  unit_comes sent messages (phase.Out bound status) bytes joiner at left comes = bound_comes sent messages [] (phase.Out bound status) bytes joiner at left (λ More Other known. tt) comes

  shut_comes : (sent : List ChallengeSent) (messages : List MessageTaken) (at after : AtLink) (talk : Talk) (left : List (List ℕ)) → Comes w Free Sent sent messages (comes_to at (Some talk) left) →
      Comes w Free Sent sent messages (comes_to after None left)
  shut_comes [] messages at after talk left comes = (comes.0, tt)
  shut_comes (one ∷ []) messages at after talk left comes = (comes.0, comes.1, comes.2, tt)
  shut_comes (one ∷ other ∷ more) messages at after talk left comes = absurd comes

  comes_stay : StaysBeside link_server (λ done part. ComesSo (flat_map (challenge_note w) done) (flat_map (message_note w) done) part)
  comes_stay = record {
    unit = λ done bytes at talk left comes.
        let one : ServedUnit AtLink Talk = unit_served link_server bytes at talk left in
        let part : ServedPart AtLink Talk = link_server.unit bytes at talk left in
        subst (λ (sent : List ChallengeSent). ComesSo sent (flat_map (message_note w) (done ++ one ∷ [])) part) (flat_map_more (challenge_note w) [] done one)
        (subst (λ (messages : List MessageTaken). ComesSo (flat_map (challenge_note w) done ++ challenge_note w one) messages part) (flat_map_more (message_note w) [] done one)
        (unit_comes (flat_map (challenge_note w) done) (flat_map (message_note w) done) talk.phase bytes talk.joiner at left comes));
    refusal = λ done why at talk left comes.
        (shut_comes (flat_map (challenge_note w) done) (flat_map (message_note w) done) at _ talk left comes.0, tt, comes.2);
  }

  units_come : (cut : Cut) (at : AtLink) (talk : Talk) (left : List (List ℕ)) → IfUnserved (IsSoFar Free Sent talk.phase) talk.phase → AreEights left →
      Comes w Free Sent (flat_map (challenge_note w) (served_units link_server cut.units at talk left)) (flat_map (message_note w) (served_units link_server cut.units at talk left))
      (served_cut link_server cut at talk left)
  units_come cut at talk left known eights =
      (served_beside link_server (λ done part. ComesSo (flat_map (challenge_note w) done) (flat_map (message_note w) done) part) comes_stay cut at talk left
      ((tt, known), λ fresh. refl, eights)).0

-- ---- bytes

-- what is known of a link by its number
abbrev pub KnownAt : (ℕ → Type 0) → (ℕ → List ℕ → ℕ → Type 0) → ℕ → Phase → Type 0
KnownAt Free Sent n p = IsSoFar (Free n) (Sent n) p

-- how far a link is known to be, where that CHALLENGE was sent on that link
abbrev pub KnownAfter : (ℕ → Type 0) → (ℕ → List ℕ → ℕ → Type 0) → ℕ → ChallengeSent → ℕ → Phase → Type 0
KnownAfter Free Sent link one n p = (KnownAt Free Sent n p × (n ≢ link)) ⊎ ((n ≡ link) × IsSoFar ⊥ (ReadOf one) p)

-- What bytes on a link come to, by what was sent; what is known of the links then.
abbrev pub BytesCome : ℕ → (ℕ → Type 0) → (ℕ → List ℕ → ℕ → Type 0) → List ChallengeSent → List MessageTaken → ((ℕ → Phase → Type 0) → Type 0) → Type 0
BytesCome link Free Sent [] messages After = AreTakenWith (Sent link) messages × After (KnownAt Free Sent)
BytesCome link Free Sent (one ∷ []) messages After =
    Free link × (one.link ≡ link) × AreTakenWith (ReadOf one) messages × After (KnownAfter Free Sent link one)
BytesCome link Free Sent (one ∷ other ∷ more) messages After = ⊥

module _ (w : LinkAt) (Free : ℕ → Type 0) (Sent : ℕ → List ℕ → ℕ → Type 0) (piece : List ℕ) (now : ℕ) (left : List (List ℕ)) (eights : AreEights left) where
  alone_come : (sent : List ChallengeSent) (messages : List MessageTaken) (at : AtLink) (said : Option Talk) (after : List (List ℕ)) (rest : List ℕ) (work : Work) →
      Comes w (Free w.link) (Sent w.link) sent messages (comes_to at said after) → Unserved (λ n p. KnownAt Free Sent n p × (n ≢ w.link)) work.links →
      BytesCome w.link Free Sent sent messages (λ May. Unserved May (keep_link said rest w.link (after_link at work)).links)
  alone_come [] messages at said after rest work comes all = (
    comes.0,
    kept_known (KnownAt Free Sent) said rest w.link at work comes.1
        (links_so (λ n p. KnownAt Free Sent n p × (n ≢ w.link)) (KnownAt Free Sent) (λ n p both. both.0) work.links all),
  )
  alone_come (one ∷ []) messages at said after rest work comes all = (
    comes.0,
    comes.1,
    comes.2,
    kept_known (KnownAfter Free Sent w.link one) said rest w.link at work
        (said_more (IsSoFar ⊥ (ReadOf one)) (KnownAfter Free Sent w.link one w.link) (λ p known. inr (refl, known)) said comes.3)
        (links_so (λ n p. KnownAt Free Sent n p × (n ≢ w.link)) (KnownAfter Free Sent w.link one) (λ n p both. inl both) work.links all),
  )
  alone_come (one ∷ other ∷ more) messages at said after rest work comes all = absurd comes

  -- of the units that were served
  abbrev UnitsCome : List (ServedUnit AtLink Talk) → ((ℕ → Phase → Type 0) → Type 0) → Type 0
  UnitsCome units After = BytesCome w.link Free Sent (flat_map (challenge_note w) units) (flat_map (message_note w) units) After

  abbrev WorkComes : List (ServedUnit AtLink Talk) → WorkFact
  WorkComes units how work rest = UnitsCome units (λ May. Unserved May work.links)

  -- what bytes on an accepted link come to at a step of a member
  pub bytes_come : (m : MemberState) → LinksIn (KnownAt Free Sent) m.running →
      BytesCome w.link Free Sent (flat_map (challenge_note w) (link_units m w.link piece now left)) (flat_map (message_note w) (link_units m w.link piece now left))
      (λ May. LinksIn May (step_of m (event.Bytes w.link piece) now left).state.running)
  bytes_come m all =
      bytes_hear w.link piece now left m WorkComes (λ units stepped. UnitsCome units (λ May. LinksIn May stepped.state.running)) (record {
        stopped = (tt, all);
        spent = (tt, tt);
        nowhere = λ running runs. (tt, subst (LinksIn (KnownAt Free Sent)) runs all);
        on_link = λ running link how runs is there.
            let cut : Cut = cut_stream (link.rest ++ piece) in
            let at : AtLink = at_link w.link (work_of running) in
            let units : List (ServedUnit AtLink Talk) = served_units link_server cut.units at link.talk left in
            let known : Unserved (KnownAt Free Sent) running.links = subst (LinksIn (KnownAt Free Sent)) runs all in
            let come = units_come w (Free w.link) (Sent w.link) cut at link.talk left (found_known (KnownAt Free Sent) w.link running.links link there known) eights in
            units_then (WorkComes units) (served_cut link_server cut at link.talk left) cut.rest w.link how (without_link w.link (work_of running)) (λ after said rest is.
            alone_come (flat_map (challenge_note w) units) (flat_map (message_note w) units) after said rest cut.rest (without_link w.link (work_of running))
            (subst (Comes w (Free w.link) (Sent w.link) (flat_map (challenge_note w) units) (flat_map (message_note w) units)) is come) (taken_known (KnownAt Free Sent) w.link running.links known));
        on_turn = λ running said runs is.
            part_so (WorkLinks (KnownAt Free Sent)) (WorkComes []) (serve_dialled (cut_stream (said.rest ++ piece)) w.link said.talk (work_of running) left) (λ how work rest known. (tt, known))
            (dialled_known (KnownAt Free Sent) (cut_stream (said.rest ++ piece)) w.link said.talk (work_of running) left (subst (LinksIn (KnownAt Free Sent)) runs all));
        next = λ units. record { still = λ how work rest can come. come; starts = λ turn frames challenge how work before after can drawn is come. come };
      })
