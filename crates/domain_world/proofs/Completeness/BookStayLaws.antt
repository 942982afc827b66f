-- What was told and judged stays written down, and a link stays between its ends.
-- It serves `Proved.complete`.
use Rattle.std.proofs.Common.{◌≡◌, ℕ, refl, sym, subst, true, List, [], ◌∷◌, Some, slice_get}
use Rattle.wire_base.specs.Lists.{OneOf}
use Rattle.wire_base.proofs.ListLaws.{got_append, one_before}
use Rattle.step_notes.specs.Records.{Book, Judging, OutcomeTold}
use Rattle.world_moves.specs.declared.links.EndId.{EndId}
use Rattle.world_moves.specs.declared.links.Route.{Route}
use Rattle.world_moves.specs.declared.moves.Move.{Move}
use Rattle.world_moves.specs.declared.state.State.{State}
use Rattle.world_moves.specs.World.{World, run}
use Rattle.domain_world.specs.Past.{Delivery, answers_of, book, judged_of, note_at, numbers_on, told_in}
use Rattle.domain_world.proofs.Frames.AloneFrameLaws.{StandsAlone}
use Rattle.domain_world.proofs.Frames.BookFrameLaws.{book_stays}
use Rattle.domain_world.proofs.Frames.FrameLaws.{Fact, StaysWritten, later_stays}
use Rattle.domain_world.proofs.Frames.EndNoteLaws.{judged_so}
use Rattle.domain_world.proofs.Frames.EveryStepLaws.{bytes_told, every_book as book_by}
use Rattle.domain_world.proofs.Judgements.ReplyLaws.{one_older}

-- ---- one of several

-- ---- what was told

pub told_stays : (P : OutcomeTold → Type 0) (moves : List Move) (w : World) (b : Book) → StandsAlone w.state → OneOf P b.told → OneOf P (book moves w b).told
told_stays P moves w b stands one =
    book_stays (λ (now : Book). OneOf P now.told)
    (λ end w piece s after now is. subst (OneOf P) (sym (bytes_told end w piece s after now)) is)
    (λ at given after now is. one_before P now.told (told_in given at) is) moves w b stands.placed one

-- ---- what was judged

bytes_judged : (P : Judging → Type 0) (end : EndId) (w : Delivery) (piece : List ℕ) (s after : State) (b : Book) → OneOf P b.judged → OneOf P (note_at (Some end) w piece s after b).judged
bytes_judged P end w piece s after b one =
    book_by (λ (which : EndId) (now : Book). OneOf P now.judged) w piece s after b (λ which. one)
    (λ at c is. one_older P (judged_of (answers_of at c w piece s) (numbers_on w.link true s.bag after.bag)) b.judged one)
    (λ at m is. subst (OneOf P) (sym (judged_so.members m at w piece s after b)) one) (λ at c is. one) end

pub judged_stays : (P : Judging → Type 0) (moves : List Move) (w : World) (b : Book) → StandsAlone w.state → OneOf P b.judged → OneOf P (book moves w b).judged
judged_stays P moves w b stands one = book_stays (λ (now : Book). OneOf P now.judged) (bytes_judged P) (λ at given after now is. is) moves w b stands.placed one

-- ---- links

LinkIs : ℕ → Route → Unit {0} → Fact
LinkIs number route x ends chances links = slice_get links number ≡ Some route

link_is : (number : ℕ) (route : Route) → StaysWritten (λ (b : Book). tt) (LinkIs number route)
unfolding LinkIs
link_is number route = record {
  stays = λ x. record {
    hears = λ end what now ends chances links quiet is. is;
    opens = λ added now ends chances links is. got_append links (added ∷ []) number route is;
    controllers = λ c at ends chances links there is. is;
    members = λ plan at ends chances links is. is;
    changes = λ secret running at ends chances links there none is. is;
    clients = λ client at ends chances links is. is;
  };
  bytes = λ end w piece s after b is. is;
  given = λ at given after b. refl;
}

pub link_stays : (number : ℕ) (route : Route) (moves : List Move) (w : World) (b : Book) → StandsAlone w.state → slice_get w.state.links number ≡ Some route → slice_get (run moves w).state.links number ≡ Some route
unfolding LinkIs
link_stays number route moves w b stands is = later_stays (λ (now : Book). tt) (LinkIs number route) (link_is number route) moves w b stands is
