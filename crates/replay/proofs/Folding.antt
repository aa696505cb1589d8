-- One call more of a run, and none left.
use Rattle.std.proofs.Common.{◌≡◌, ℕ, ◌+◌, ◌<◌, Bool, List, [], ◌∷◌, ◌++◌, map, length, get_or, drop, sym, ap, ◌∙◌}
use Rattle.std.proofs.lemmas.List.{append_assoc, drop_more}
use Rattle.market.specs.Calls.{call_of}
use Rattle.market.specs.declared.order.OrderTerms.{OrderTerms}
use Rattle.replay.specs.declared.step.Step.{Step}
use Rattle.replay.specs.Performing.{State, Done, Reply, performed}
use Rattle.replay.specs.Runs.{Asked, after, answers, asked, step}

module _ {F : Type 0} (orders : F → List OrderTerms) (good : OrderTerms → OrderTerms → Bool) (d next : State) (a : Reply) (ss : List (Step F)) (i : ℕ) (s : Step F)
    (lt : i < length ss) (is : s ≡ get_or ss i s)
    (h : ◌≡◌ {A = Done} (record { next = next; answer = a }) (performed good d (orders s.filed) s.time (call_of s.event))) where
  rest_is : map (asked orders) (drop i ss) ≡ asked orders s ∷ map (asked orders) (drop (i + 1) ss)
  rest_is = ap (map (asked orders)) (drop_more ss i s lt) ∙ ap (λ (x : Step F). asked orders x ∷ map (asked orders) (drop (i + 1) ss)) (sym is)

  stepped : ◌≡◌ {A = Done} (record { next = next; answer = a }) (step good d (asked orders s))
  unfolding step
  stepped = h

  pub after_more : after good next (map (asked orders) (drop (i + 1) ss)) ≡ after good d (map (asked orders) (drop i ss))
  after_more = ap (λ (x : Done). after good x.next (map (asked orders) (drop (i + 1) ss))) stepped ∙ sym (ap (after good d) rest_is)

  pub answers_more : (outs : List Reply) → (outs ++ a ∷ []) ++ answers good next (map (asked orders) (drop (i + 1) ss)) ≡ outs ++ answers good d (map (asked orders) (drop i ss))
  answers_more outs =
      append_assoc outs (a ∷ []) (answers good next (map (asked orders) (drop (i + 1) ss)))
      ∙ (ap (λ (x : Done). outs ++ (x.answer ∷ answers good x.next (map (asked orders) (drop (i + 1) ss)))) stepped
      ∙ sym (ap (λ (l : List Asked). outs ++ answers good d l) rest_is))
