-- What one more happening does to the links of a story.
use Rattle.std.proofs.Common.{◌≡◌, ℕ, ◌≤◌, Bool, true, false, IsTrue, IfOk, Result, Ok, Err, Some, None, ◌==◌, nat_lt, List, [], ◌∷◌, ◌++◌, refl, subst, sym, ap, ◌∙◌, arith}
use Rattle.std.proofs.lemmas.Bool.Decides.{nat_tests}
use Rattle.wire_base.specs.declared.memory.NoMemory.{NoMemory}
use Rattle.outside.specs.declared.event.Event.TheVariants.{Opened, Bytes, Closed, Dialled, DialFailed, Stop}
use Rattle.outside.specs.declared.event.Happening.{Happening}
use Rattle.outside.specs.declared.event.Happening.TheVariants as happening
use Rattle.outside.specs.Links.{linked_after, linked_from}
use Rattle.outside.specs.PortScript.{HasLinksBelow, is_kept_below, Stores}

pub linked_from-push : (before : Bool) (story : List Happening) (happened : Happening) (link : ℕ) →
    linked_from before (story ++ happened ∷ []) link ≡ linked_after happened link (linked_from before story link)
linked_from-push before [] happened link = refl
linked_from-push before (first ∷ story) happened link = linked_from-push (linked_after first link before) story happened link

apart : (n link other : ℕ) → IsTrue (nat_lt other n) → n ≤ link → (other == link) ≡ false
apart n link other below above = grind (arith, nat_tests)

-- what happened opens no link from n on
linked_after-below : (n link : ℕ) (happened : Happening) → IsTrue (is_kept_below n happened) → n ≤ link → linked_after happened link false ≡ false
linked_after-below n link (happening.Listened address) below above = refl
linked_after-below n link (happening.Given (Opened other) want) below above = apart n link other below above
linked_after-below n link (happening.Given (Bytes other bytes) want) below above = refl
linked_after-below n link (happening.Given (Closed other) want) below above = refl
linked_after-below n link (happening.Given (Dialled other) want) below above = refl
linked_after-below n link (happening.Given DialFailed want) below above = refl
linked_after-below n link (happening.Given Stop want) below above = refl
linked_after-below n link (happening.Sent other bytes failed) below above = refl
linked_after-below n link (happening.Dialled peer (Some other)) below above = apart n link other below above
linked_after-below n link (happening.Dialled peer None) below above = refl
linked_after-below n link (happening.Shut other) below above = refl

pub HasLinksBelow-push : (n : ℕ) (story : List Happening) (happened : Happening) → IsTrue (is_kept_below n happened) →
    HasLinksBelow n story → HasLinksBelow n (story ++ happened ∷ [])
HasLinksBelow-push n story happened below before link above =
    linked_from-push false story happened link ∙ ap (linked_after happened link) (before link above) ∙ linked_after-below n link happened below above

pub HasLinksBelow-stored : (n : ℕ) (old new : List Happening) (happened : Result Happening NoMemory) (stored : Bool) →
    IfOk happened (λ h. IsTrue (is_kept_below n h)) → HasLinksBelow n old → Stores old new happened stored → HasLinksBelow n new
HasLinksBelow-stored n old new (Ok happened) true below before is = subst (HasLinksBelow n) (sym is) (HasLinksBelow-push n old happened below before)
HasLinksBelow-stored n old new (Ok happened) false below before is = subst (HasLinksBelow n) (sym is) before
HasLinksBelow-stored n old new (Err e) stored below before is = subst (HasLinksBelow n) (sym is.1) before
