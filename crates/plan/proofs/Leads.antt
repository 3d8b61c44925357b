-- A way by what its entries lead to, and what is decided then.
use Rattle.std.proofs.Common.{◌≡◌, ℕ, suc, Bool, true, false, cond, eqb, refl, ap, ◌∙◌, arith, eq-eqb, ne_eqb, Result, Ok, Err}
use Rattle.plan.specs.declared.direct.Stop.TheVariants as stop
use Rattle.plan.specs.declared.direct.Stop.{Stop}
use Rattle.entry.specs.Entry.{says}
use Rattle.entry.specs.declared.Entry.{Entry}
use Rattle.entry.specs.declared.Entry.TheVariants as entry
use Rattle.walk.specs.Walk.{entry_of}
use Rattle.pool.specs.Book.{in_pool}
use Rattle.pool.specs.declared.Space.{Space}
use Rattle.plan.specs.declared.descent.Way.{Way}
use Rattle.plan.specs.declared.descent.Why.TheVariants as why
use Rattle.plan.specs.Descend.{Descent, Going, push_of, stop_of, at_entry_of, arrive_of, step_down_of, down_of, end_of}
use Rattle.plan.specs.AtOnce.{lead_by, lead_of, Leads}
use Rattle.plan.proofs.Ways.{down_stopped}

module _ (h : ℕ → Bool) (m : ℕ → ℕ) (sp : Space) (target va : ℕ) where
  -- a step by what the entry leads to
  abbrev trail_of : ℕ → ℕ → Way → Way → Result ℕ Stop → Descent
  trail_of n x w v (Err stop.Nothing) = stop_of why.Nothing n x v
  trail_of n x w v (Err stop.Page) = stop_of why.Page n x v
  trail_of n x w v (Ok t) = cond (eqb n target) (stop_of why.Table n x v) (Going t v)
  trail_of n x w v (Err stop.Stray) = stop_of why.Stray n 0 w

  told_trail : (n x : ℕ) (w v : Way) (e : Entry) → at_entry_of target n x v e ≡ trail_of n x w v (lead_by e)
  unfolding at_entry_of lead_by
  told_trail n x w v entry.Nothing = refl
  told_trail n x w v (entry.Page f g) = refl
  told_trail n x w v (entry.Table t g) = refl

  step_lead : (n t : ℕ) (w : Way) → step_down_of h m sp target va n (Going t w) ≡ trail_of n (m (entry_of n va t)) w (push_of w t) (lead_of h m sp va n t)
  unfolding step_down_of arrive_of lead_of
  step_lead n t w = go (in_pool sp t) (h t)
    where
      go : (a b : Bool)
          → cond a (cond b (at_entry_of target n (m (entry_of n va t)) (push_of w t) (says n (m (entry_of n va t)))) (stop_of why.Stray n 0 w)) (stop_of why.Stray n 0 w)
          ≡ trail_of n (m (entry_of n va t)) w (push_of w t) (cond a (cond b (lead_by (says n (m (entry_of n va t)))) (Err stop.Stray)) (Err stop.Stray))
      go true true = told_trail n (m (entry_of n va t)) w (push_of w t) (says n (m (entry_of n va t)))
      go true false = refl
      go false b = refl

  -- one step, and then the others
  down_lead : (n t : ℕ) (w : Way) (l : Result ℕ Stop) → lead_of h m sp va n t ≡ l
      → down_of h m sp target va (suc n) (Going t w) ≡ down_of h m sp target va n (trail_of n (m (entry_of n va t)) w (push_of w t) l)
  unfolding down_of
  down_lead n t w l e = ap (down_of h m sp target va n) (step_lead n t w ∙ ap (trail_of n (m (entry_of n va t)) w (push_of w t)) e)

  -- above the target the way goes on at the table
  pub lead_on : (n t u : ℕ) (w : Way) → (n ≡ target → ⊥) → lead_of h m sp va n t ≡ Ok u
      → down_of h m sp target va (suc n) (Going t w) ≡ down_of h m sp target va n (Going u (push_of w t))
  lead_on n t u w d e = down_lead n t w (Ok u) e ∙ ap (down_of h m sp target va n) (simp (ne_eqb n target d))

  -- it stops at a page, at nothing, and at the target at a table
  pub lead_page : (n t : ℕ) (w : Way) → lead_of h m sp va n t ≡ Err stop.Page
      → down_of h m sp target va (suc n) (Going t w) ≡ stop_of why.Page n (m (entry_of n va t)) (push_of w t)
  unfolding stop_of
  lead_page n t w e = down_lead n t w (Err stop.Page) e ∙ down_stopped h m sp target va n _

  pub ends_page : (n t : ℕ) (w : Way) → lead_of h m sp va n t ≡ Err stop.Page → (end_of (down_of h m sp target va (suc n) (Going t w))).why ≡ why.Page
  unfolding end_of stop_of
  ends_page n t w e = ap (λ s. (end_of s).why) (lead_page n t w e)

  pub ends_stop : (n t : ℕ) (w : Way) (y : Stop) → lead_of h m sp va n t ≡ Err y → Leads h m sp target va (down_of h m sp target va (suc n) (Going t w)) (Err y)
  ends_stop n t w stop.Page e = ends_page n t w e
  ends_stop n t w stop.Nothing e = tt
  ends_stop n t w stop.Stray e = tt

  pub lead_nothing : (n t : ℕ) (w : Way) → lead_of h m sp va n t ≡ Err stop.Nothing
      → down_of h m sp target va (suc n) (Going t w) ≡ stop_of why.Nothing n (m (entry_of n va t)) (push_of w t)
  unfolding stop_of
  lead_nothing n t w e = down_lead n t w (Err stop.Nothing) e ∙ down_stopped h m sp target va n _

  pub lead_table : (t u : ℕ) (w : Way) → lead_of h m sp va target t ≡ Ok u
      → down_of h m sp target va (suc target) (Going t w) ≡ stop_of why.Table target (m (entry_of target va t)) (push_of w t)
  unfolding stop_of
  lead_table t u w e =
      down_lead target t w (Ok u) e ∙ (ap (down_of h m sp target va target) (simp (eq-eqb target target refl)) ∙ down_stopped h m sp target va target _)

  -- what a way is, by what its entry above the target leads to
  pub leads : (n t : ℕ) (w : Way) → n ≡ suc target → Leads h m sp target va (down_of h m sp target va (suc n) (Going t w)) (lead_of h m sp va n t)
  leads n t w e = go (lead_of h m sp va n t) refl
    where
      go : (l : Result ℕ Stop) → lead_of h m sp va n t ≡ l → Leads h m sp target va (down_of h m sp target va (suc n) (Going t w)) l
      go (Ok u) k =
          let d : n ≡ target → ⊥ = λ z. omega arith in
          record { way = push_of w t; trail = lead_on n t u w d k ∙ ap (λ x. down_of h m sp target va x (Going u (push_of w t))) e }
      go (Err stop.Page) k = ends_page n t w k
      go (Err stop.Nothing) k = tt
      go (Err stop.Stray) k = tt
