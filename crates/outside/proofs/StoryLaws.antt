-- What a story says where more happened after it.
use Rattle.std.proofs.Common.{◌≡◌, ℕ, Bool, true, false, ◌||◌, List, [], ◌∷◌, ◌++◌, Option, Some, None, if◌then◌else◌, refl, sym, ap, ◌∙◌, append_assoc}
use Rattle.std.specs.List.{list_any}
use Rattle.std.proofs.lemmas.Grind.{flat_map-append}
use Rattle.std.proofs.lemmas.List.Folds.{list_any-append}
use Rattle.outside.specs.Causes.{RisesWhere}
use Rattle.outside.specs.declared.event.Happening.{Happening}
use Rattle.outside.specs.declared.event.Happening.TheVariants as happening
use Rattle.std.specs.Option.{is_none}
use Rattle.outside.specs.Stories.{address_after, address_from, event_of, dial_of, close_of, send_of, send_on, sends_on, before_failure, bytes_of, has_failed, is_link_failure, bytes_after, fails_at_links, StoriesAddUp, FaultsFollow}

address_from-append : (known : Option (List ℕ)) (before later : List Happening) → address_from known (before ++ later) ≡ address_from (address_from known before) later
address_from-append known [] later = refl
address_from-append known (happened ∷ before) later = address_from-append (address_after happened known) before later

-- the bytes of sends, where more were made after them
before_failure-append : (before later : List (List ℕ × Bool)) →
    bytes_of (before_failure (before ++ later))
    ≡ bytes_after (list_any has_failed before) (bytes_of (before_failure before)) (bytes_of (before_failure later))
before_failure-append [] later = refl
before_failure-append (send ∷ before) later =
    one_more send.0 send.1 (list_any has_failed before) (before_failure before) (before_failure later) _ (before_failure-append before later)
  where
    one_more : (bytes : List ℕ) (failed others : Bool) (now next all : List (List ℕ)) → bytes_of all ≡ bytes_after others (bytes_of now) (bytes_of next) →
        bytes_of (if failed then [] else bytes ∷ all) ≡ bytes_after (failed || others) (bytes_of (if failed then [] else bytes ∷ now)) (bytes_of next)
    one_more bytes true others now next all is = refl
    one_more bytes false true now next all is = ap (λ z. bytes ++ z) is
    one_more bytes false false now next all is = ap (λ z. bytes ++ z) is ∙ sym (append_assoc bytes (bytes_of now) (bytes_of next))

pub stories_add_up : StoriesAddUp
stories_add_up = record {
  address = address_from-append None;
  events = flat_map-append event_of;
  dials = flat_map-append dial_of;
  closes = flat_map-append close_of;
  sends = flat_map-append send_of;
  bytes = λ link before later.
      ap (λ sends. bytes_of (before_failure sends)) (flat_map-append (send_on link) before later)
      ∙ before_failure-append (sends_on link before) (sends_on link later);
  failures = list_any-append is_link_failure;
}

pub RisesWhere-sent : (link : ℕ) (bytes : List ℕ) (failed : Bool) (before now : ℕ) → RisesWhere failed before now →
    RisesWhere (fails_at_links (happening.Sent link bytes failed ∷ [])) before now
RisesWhere-sent link bytes true before now rises = rises
RisesWhere-sent link bytes false before now rises = rises

pub RisesWhere-dialled : (peer : List ℕ) (link : Option ℕ) (before now : ℕ) → RisesWhere (is_none link) before now →
    RisesWhere (fails_at_links (happening.Dialled peer link ∷ [])) before now
RisesWhere-dialled peer (Some link) before now rises = rises
RisesWhere-dialled peer None before now rises = rises

pub faults_follow : FaultsFollow
faults_follow = record { sent = RisesWhere-sent; dialled = RisesWhere-dialled }
