-- The units of a stream, served in order.
use Rattle.std.proofs.Common.{◌≡◌, ℕ, ◌≤◌, false, List, [], ◌∷◌, ◌++◌, length, map, Option, Some, None, Result, Ok, Err, take, drop, refl, sym, ap, subst, ◌∙◌, arith}
use Rattle.std.specs.List.{AllByRecursion}
use Rattle.outside.specs.declared.action.StepRefused.{StepRefused}
use Rattle.outside.specs.declared.action.StepRefused.TheVariants.{Spent, Memory, Stopped}
use Rattle.outside.specs.Drawing.{IsRest}
use Rattle.outside.specs.Machine.{Part, AnswersBy, left_by}
use Rattle.outside.proofs.DrawLaws.{IsRest-refl, DrawsSome-none, DrawsSome-trans}
use Rattle.outside.proofs.MachineLaws.{then_part-rest, AnswersBy-refused}
use Rattle.rpc_units.specs.declared.refused.UnitRefused.{UnitRefused}
use Rattle.rpc_units.specs.declared.unit.Unit.{Unit as RpcUnit}
use Rattle.rpc_units.specs.Calls.{CanBeSent, bytes_of_call}
use Rattle.rpc_units.specs.Joining.{stub_of, open_after, cut_of, AddsTo}
use Rattle.rpc_units.specs.Incoming.{Coming}
use Rattle.rpc_units.specs.Stream.{Flow, Cut, cut_stream, with_unit, with_front, without_front, size_given, IsCut}
use Rattle.rpc_units.specs.Writing.{written, IsSendable}
use Rattle.rpc_units.proofs.ComingLaws.{front_done}
use Rattle.rpc_units.proofs.CutStreamLaws.{cut_joined, cut_stays_refused}
use Rattle.rpc_units.proofs.CuttingLaws.{cut_each, cut_sendable, call_heard}
use Rattle.rpc_units.proofs.WritingLaws.{unit_of-written}
use Rattle.end_links.specs.Serving.{Server, ServerLeavesRest, IsFragmentOf, JoinsCall, UnitsServed, ServedPart, Service, with_close, then_talk, then_open, served_by, served_cut}

-- ---- more units behind others

more_said : {W T : Type 0} (server : Server W T) (one other : List (List ℕ)) (why : Option UnitRefused) →
    ((work : W) (talk : T) (left : List (List ℕ)) → served_by server (one ++ other) why work talk left
    ≡ then_open (served_by server one None work talk left) (λ later said rest. served_by server other why later said rest)) →
    (work : W) (talk : Option T) (left : List (List ℕ)) →
    then_talk work talk left (λ later said rest. served_by server (one ++ other) why later said rest)
    ≡ then_open (then_talk work talk left (λ later said rest. served_by server one None later said rest)) (λ later said rest. served_by server other why later said rest)
more_said server one other why each work None left = refl
more_said server one other why each work (Some talk) left = each work talk left

more_open : {W T : Type 0} (server : Server W T) (one other : List (List ℕ)) (why : Option UnitRefused) →
    ((work : W) (talk : T) (left : List (List ℕ)) → served_by server (one ++ other) why work talk left
    ≡ then_open (served_by server one None work talk left) (λ later said rest. served_by server other why later said rest)) →
    (part : ServedPart W T) →
    then_open part (λ later said rest. served_by server (one ++ other) why later said rest)
    ≡ then_open (then_open part (λ later said rest. served_by server one None later said rest)) (λ later said rest. served_by server other why later said rest)
more_open server one other why each (Err refused) = refl
more_open server one other why each (Ok part) = more_said server one other why each part.value.0 part.value.1 part.left

served_more : {W T : Type 0} (server : Server W T) (one other : List (List ℕ)) (why : Option UnitRefused) (work : W) (talk : T) (left : List (List ℕ)) →
    served_by server (one ++ other) why work talk left
    ≡ then_open (served_by server one None work talk left) (λ later said rest. served_by server other why later said rest)
served_more server [] other why work talk left = refl
served_more server (bytes ∷ one) other why work talk left =
    more_open server one other why (λ later said rest. served_more server one other why later said rest) (server.unit bytes work talk left)

served_pieces : {W T : Type 0} (server : Server W T) (stream more : List ℕ) (work : W) (talk : T) (left : List (List ℕ)) → (cut_stream stream).refused ≡ None →
    served_cut server (cut_stream (stream ++ more)) work talk left
    ≡ then_open (served_cut server (cut_stream stream) work talk left)
    (λ later said rest. served_cut server (cut_stream ((cut_stream stream).rest ++ more)) later said rest)
served_pieces server stream more work talk left whole =
    let cut = cut_stream stream in
    let next = cut_stream (cut.rest ++ more) in
    ap (λ c. served_cut server c work talk left) (cut_joined stream more whole)
    ∙ served_more server cut.units next.units next.refused work talk left
    ∙ ap (λ (w : Option UnitRefused). then_open (served_by server cut.units w work talk left) (λ later said rest. served_cut server next later said rest)) (sym whole)

served_refused : {W T : Type 0} (server : Server W T) (stream more : List ℕ) (why : UnitRefused) (work : W) (talk : T) (left : List (List ℕ)) → (cut_stream stream).refused ≡ Some why →
    served_cut server (cut_stream (stream ++ more)) work talk left ≡ served_cut server (cut_stream stream) work talk left
served_refused server stream more why work talk left is =
    let stays = cut_stays_refused stream more why is in
    ap (λ units. served_by server units (cut_stream (stream ++ more)).refused work talk left) stays.0
    ∙ ap (λ (w : Option UnitRefused). served_by server (cut_stream stream).units w work talk left) (stays.1 ∙ sym is)

-- ---- a call in fragments

no_talk : {W T : Type 0} (server : Server W T) (work : W) (talk : Option T) (left : List (List ℕ)) →
    then_talk work talk left (λ later said rest. served_by server [] None later said rest) ≡ Ok (record { value = (work, talk); left = left })
no_talk server work None left = refl
no_talk server work (Some talk) left = refl

no_more : {W T : Type 0} (server : Server W T) (part : ServedPart W T) →
    then_open part (λ later said rest. served_by server [] None later said rest) ≡ part
no_more server (Err why) = refl
no_more server (Ok part) = no_talk server part.value.0 part.value.1 part.left

served_frames : {W T : Type 0} (server : Server W T) (call : RpcUnit) (saying : Option RpcUnit → T) (serve : W → List (List ℕ) → ServedPart W T) → JoinsCall server call saying serve →
    (frames : List RpcUnit) (so_far : Option RpcUnit) (work : W) (left : List (List ℕ)) → AllByRecursion IsSendable frames → AllByRecursion (IsFragmentOf call) frames → AddsTo so_far frames call →
    served_by server (map written frames) None work (saying so_far) left ≡ serve work left
served_frames server call saying serve joins [] so_far work left sendable of adds = absurd adds
served_frames server call saying serve joins (frame ∷ []) so_far work left sendable of adds =
    ap (λ s. then_open s (λ later said rest. served_by server [] None later said rest))
    (joins.last (written frame) frame so_far work left (unit_of-written frame sendable.0.writable sendable.0.range sendable.0.short) of.0 adds)
    ∙ no_more server (serve work left)
served_frames server call saying serve joins (frame ∷ next ∷ frames) so_far work left sendable of adds =
    ap (λ s. then_open s (λ later said rest. served_by server (map written (next ∷ frames)) None later said rest))
    (joins.before (written frame) frame so_far work left (unit_of-written frame sendable.0.writable sendable.0.range sendable.0.short) of.0 adds.0)
    ∙ served_frames server call saying serve joins (next ∷ frames) (open_after so_far frame) work left sendable.1 of.1 adds.1

fragments_of_call : (call : RpcUnit) (limit : ℕ) → 1432 ≤ limit → AllByRecursion (IsFragmentOf call) (cut_of call limit)
fragments_of_call call limit least =
    cut_each (IsFragmentOf call) call limit (omega arith) (λ first last stub short. record { first = first; last = last; stub = stub; is = refl })

served_call : {W T : Type 0} (server : Server W T) (call : RpcUnit) (limit : ℕ) (saying : Option RpcUnit → T) (serve : W → List (List ℕ) → ServedPart W T)
    (work : W) (left : List (List ℕ)) → CanBeSent call limit → length (stub_of call.body) ≤ 65536 → JoinsCall server call saying serve →
    served_cut server (cut_stream (bytes_of_call call limit)) work (saying None) left ≡ serve work left
served_call server call limit saying serve work left sent short joins =
    let heard = call_heard call limit sent short in
    ap (λ c. served_cut server c work (saying None) left) heard.stream
    ∙ served_frames server call saying serve joins (cut_of call limit) None work left (cut_sendable call limit sent) (fragments_of_call call limit sent.least) heard.joined

-- ---- the challenges that are left

close_rest : {W : Type 0} (T : Type 0) (part : Result (Part W) StepRefused) (left : List (List ℕ)) → IsRest (left_by part) left → IsRest (left_by (with_close {T = T} part)) left
close_rest T (Err why) left rest = rest
close_rest T (Ok part) left rest = rest

said_rest : {W T : Type 0} (work : W) (talk : Option T) (left : List (List ℕ)) (later : Service W T) →
    ((w : W) (t : T) (l : List (List ℕ)) → IsRest (left_by (later w t l)) l) → IsRest (left_by (then_talk work talk left later)) left
said_rest work None left later leaves = IsRest-refl left
said_rest work (Some talk) left later leaves = leaves work talk left

served_rest : {W T : Type 0} (server : Server W T) (units : List (List ℕ)) (why : Option UnitRefused) → ServerLeavesRest server →
    (work : W) (talk : T) (left : List (List ℕ)) → IsRest (left_by (served_by server units why work talk left)) left
served_rest server [] None leaves work talk left = IsRest-refl left
served_rest server [] (Some why) leaves work talk left = close_rest _ (server.refusal why work talk left) left (leaves.refusal why work talk left)
served_rest server (bytes ∷ units) why leaves work talk left =
    then_part-rest (server.unit bytes work talk left) (λ done rest. then_talk done.0 done.1 rest (λ later said more. served_by server units why later said more)) left
    (λ done rest. said_rest done.0 done.1 rest (λ later said more. served_by server units why later said more) (served_rest server units why leaves))
    (leaves.unit bytes work talk left)

pub units_served : {W T : Type 0} → UnitsServed W T
units_served = record {
  pieces = served_pieces;
  refused = served_refused;
  call = served_call;
  rest = λ server cut work talk left leaves. served_rest server cut.units cut.refused leaves work talk left;
}

-- ---- the steps of a loop over what comes on a link

by_first : {W T : Type 0} (server : Server W T) (old cut : Cut) (bytes : List ℕ) (work : W) (talk : T) (left : List (List ℕ)) (part : ServedPart W T) →
    old ≡ with_unit bytes cut → server.unit bytes work talk left ≡ part →
    served_cut server old work talk left ≡ then_open part (λ later said rest. served_cut server cut later said rest)
by_first server old cut bytes work talk left part is served =
    ap (λ c. served_cut server c work talk left) is ∙ ap (λ s. then_open s (λ later said rest. served_cut server cut later said rest)) served

pub serve_more : {W T : Type 0} (server : Server W T) (old cut : Cut) (bytes : List ℕ) (work after : W) (talk still : T) (left rest : List (List ℕ)) →
    old ≡ with_unit bytes cut → server.unit bytes work talk left ≡ Ok (record { value = (after, Some still); left = rest }) →
    served_cut server old work talk left ≡ served_cut server cut after still rest
serve_more server old cut bytes work after talk still left rest is served = by_first server old cut bytes work talk left _ is served

pub serve_shut : {W T : Type 0} (server : Server W T) (old cut : Cut) (bytes : List ℕ) (work after : W) (talk : T) (left rest : List (List ℕ)) →
    old ≡ with_unit bytes cut → server.unit bytes work talk left ≡ Ok (record { value = (after, None); left = rest }) →
    served_cut server old work talk left ≡ Ok (record { value = (after, None); left = rest })
serve_shut server old cut bytes work after talk left rest is served = by_first server old cut bytes work talk left _ is served

pub serve_failed : {W T : Type 0} (server : Server W T) (old cut : Cut) (bytes : List ℕ) (work : W) (talk : T) (left rest : List (List ℕ)) (why : StepRefused) →
    ServerLeavesRest server → old ≡ with_unit bytes cut → AnswersBy (Err why) (server.unit bytes work talk left) rest →
    AnswersBy (Err why) (served_cut server old work talk left) rest
serve_failed server old cut bytes work talk left rest why leaves is answer =
    subst (λ p. AnswersBy (Err why) p rest) (sym (by_first server old cut bytes work talk left _ is refl))
    (AnswersBy-refused why (server.unit bytes work talk left) (λ done more. then_talk done.0 done.1 more (λ later said least. served_cut server cut later said least)) rest
    (λ done more. said_rest done.0 done.1 more (λ later said least. served_cut server cut later said least) (λ w t l. served_rest server cut.units cut.refused leaves w t l))
    answer)

pub serve_refusal : {W T : Type 0} (server : Server W T) (old : Cut) (rest : List ℕ) (why : UnitRefused) (work after : W) (talk : T) (left more : List (List ℕ)) →
    old ≡ record { units = []; rest = rest; refused = Some why } → server.refusal why work talk left ≡ Ok (record { value = after; left = more }) →
    served_cut server old work talk left ≡ Ok (record { value = (after, None); left = more })
serve_refusal server old rest why work after talk left more is served =
    ap (λ c. served_cut server c work talk left) is ∙ ap (λ p. with_close p) served

close_failed : {W : Type 0} (T : Type 0) (why : StepRefused) (part : Result (Part W) StepRefused) (left : List (List ℕ)) → AnswersBy (Err why) part left → AnswersBy (Err why) (with_close {T = T} part) left
close_failed T Spent part left answer = (ap (λ p. with_close p) answer.0, answer.1)
close_failed T Memory part left answer = close_rest T part left answer
close_failed T Stopped part left answer = answer

pub refusal_failed : {W T : Type 0} (server : Server W T) (old : Cut) (rest : List ℕ) (refused : UnitRefused) (work : W) (talk : T) (left more : List (List ℕ)) (why : StepRefused) →
    old ≡ record { units = []; rest = rest; refused = Some refused } → AnswersBy (Err why) (server.refusal refused work talk left) more →
    AnswersBy (Err why) (served_cut server old work talk left) more
refusal_failed server old rest refused work talk left more why is answer =
    subst (λ p. AnswersBy (Err why) p more) (sym (ap (λ c. served_cut server c work talk left) is))
    (close_failed _ why (server.refusal refused work talk left) more answer)

-- the unit in front, where it isn't changed yet
cut_is : (size : ℕ) (cut : Cut) (flow : Flow) (left bytes : List ℕ) → IsCut size cut flow left → bytes ≡ take (size_given flow.given) flow.held →
    cut ≡ with_unit bytes (cut_stream (drop size flow.held ++ left))
cut_is size cut flow left bytes came is =
    let front : bytes ≡ take size flow.held = is ∙ ap (λ (g : Option ℕ). take (size_given g) flow.held) came.given in
    (λ i. record { units = came.units i; rest = came.rest i; refused = came.refused i })
    ∙ ap (λ b. with_unit b (cut_stream (drop size flow.held ++ left))) (sym front)

-- a unit that ends the step ends the whole
pub unit_failed : {W T : Type 0} (server : Server W T) (size : ℕ) (cut total : Cut) (flow : Flow) (left bytes : List ℕ) (work first : W) (talk said : T) (before given rest : List (List ℕ)) (why : StepRefused) →
    ServerLeavesRest server → IsCut size cut flow left → bytes ≡ take (size_given flow.given) flow.held →
    served_cut server cut work talk before ≡ served_cut server total first said given →
    AnswersBy (Err why) (server.unit bytes work talk before) rest → AnswersBy (Err why) (served_cut server total first said given) rest
unit_failed server size cut total flow left bytes work first talk said before given rest why leaves came is so_far answer =
    subst (λ p. AnswersBy (Err why) p rest) so_far
    (serve_failed server cut (cut_stream (drop size flow.held ++ left)) bytes work talk before rest why leaves (cut_is size cut flow left bytes came is) answer)

-- the unit in front, once it is served and taken out, whatever was written to it
pub unit_done : (size : ℕ) (old : Cut) (came done : Coming) (bytes changed : List ℕ) → IsCut size old came.flow came.left →
    bytes ≡ take (size_given came.flow.given) came.flow.held → length bytes ≡ size_given came.flow.given → length changed ≡ length bytes →
    done ≡ record { flow = without_front (with_front came.flow changed); left = came.left } →
    (old ≡ with_unit bytes (cut_stream (done.flow.held ++ done.left))) × (done.flow.broken ≡ false)
unit_done size old came done bytes changed cut is len same out =
    let given : size_given came.flow.given ≡ size = ap size_given cut.given in
    let front = front_done old came.flow (with_front came.flow changed) done.flow size came.left changed cut refl (same ∙ len ∙ given) (ap Coming.flow out) in (
      front.0
          ∙ ap (λ (b : List ℕ). with_unit b (cut_stream (done.flow.held ++ came.left))) (ap (λ n. take n came.flow.held) (sym given) ∙ sym is)
          ∙ ap (λ (l : List ℕ). with_unit bytes (cut_stream (done.flow.held ++ l))) (sym (ap Coming.left out)),
      front.1,
    )

pub ruleset serving = (serve_more, serve_shut, serve_failed, serve_refusal, refusal_failed, DrawsSome-none, DrawsSome-trans)
