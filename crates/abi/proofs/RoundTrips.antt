-- EXACTLY AS ASKED, by the numbers that C gives and gets: every call keeps the space whole, and what tp_raw_look_up answers after each.
use Prim.Native.Nat.{ℕ, ◌*◌, ◌/◌, ◌%◌, ◌^◌, ◌<◌, ◌≤◌}
use mathlib.Core.List.{List}
use mathlib.Core.Logic.{◌⊎◌, inl, inr}
use mathlib.Core.Path.{◌≡◌, refl, sym, ap, ◌∙◌, subst}
use native.Mathlib.Omega.{arith}
use Rattle.std.proofs.Common.{Ok}
use Rattle.entry.specs.declared.Rights.{Rights}
use Rattle.walk.specs.declared.Found.{Found}
use Rattle.walk.specs.declared.Found.TheVariants as found
use Rattle.tablepath.specs.Calls.{call_writes}
use Rattle.tablepath.specs.declared.Gone.{Gone}
use Rattle.tablepath.specs.Looks as the_laws
use Rattle.tablepath.specs.Looks.{look_up}
use Rattle.tablepath.proofs.RoundTrips.{look_up_after_map, look_up_beside_map, look_up_after_unmap, look_up_after_protect, look_up_after_told}
use Rattle.tablepath.proofs.MapUnmap.{unmap_after_map}
use Rattle.tablepath.proofs.Wholes.{call_kept}
use Rattle.tablepath.proofs.Tickets.{told_after_unmap}
use Rattle.abi.specs.Answers.{rights_word, unmapped_to_c, told_to_c, looked_up_to_c}
use Rattle.abi.specs.Relied as c
use Rattle.abi.specs.Relied.{Numbers, AlignedNumbers, space_of, WholeAt, Call, KnownRights, call_of, granted, asked, leaves, tp_map, tp_unmap, tp_protect, tp_told, tp_look_up, page, nothing, Now, Swapped, Undone, Reported}
use Rattle.abi.proofs.Named.{rights_granted, rights_back, call_leaves, unmap_answers, told_answers}
use Rattle.abi.proofs.Meant.{meant_or_same, map_meant, protect_meant}
use Rattle.abi.proofs.Says.{map_says, unmap_says, protect_says}

-- Rights in answers ----------------------------------------------------------------------------------------------------------------

page_granted : (base size frame rights : ℕ) → rights < 8 → looked_up_to_c (found.Page base size frame (granted rights)) ≡ page base size frame rights
unfolding looked_up_to_c
page_granted base size frame rights l =
    let same : rights % 8 ≡ rights = omega (arith, l) in
    rw (← rights_granted rights, rights_back rights, same)

page_had : (base size frame : ℕ) (r : Rights) → looked_up_to_c (found.Page base size frame r) ≡ page base size frame (rights_word r)
unfolding looked_up_to_c
page_had base size frame r = refl

pub nothing_is : looked_up_to_c found.Nothing ≡ nothing
unfolding looked_up_to_c
nothing_is = refl

-- Every call keeps the space whole -------------------------------------------------------------------------------------------------

-- and so the laws below hold after any calls
pub every_call_keeps : (s : List ℕ) (n : Numbers) → WholeAt s n → (x : Call) → WholeAt (leaves s n x) n
every_call_keeps s n w x = go (meant_or_same s n x)
  where
    go : KnownRights x ⊎ (leaves s n x ≡ s) → WholeAt (leaves s n x) n
    go (inl l) =
        let k = call_kept s (space_of n) w.role w.whole (call_of x) in
        record { aligned = w.aligned; role = k.0; whole = rw (call_leaves n w.aligned s x l) k.1 }
    go (inr e) = rw e w

-- Look-up after each -------------------------------------------------------------------------------------------------------------------

module _ (n : Numbers) (a : AlignedNumbers n) where
  -- the root is given to tp_raw_look_up as it is to the others
  pub looks : (s : List ℕ) (va : ℕ) → tp_look_up s n va ≡ looked_up_to_c (look_up s (space_of n) va)
  looks s va = let same : 4096 * (n.root / 4096) ≡ n.root = omega (arith, a.root) in rw same

  swapped : {s s' : List ℕ} {base size frame : ℕ} {o : Found} → the_laws.Swapped s s' (space_of n) base size frame o → Swapped s s' n base size frame (looked_up_to_c o)
  swapped {s} {s'} {base} {size} {frame} k = record {
    had = rights_word k.had;
    before = looks s base ∙ ap looked_up_to_c k.before ∙ page_had base size frame k.had;
    now_is = record { inside = λ va i. looks s' va ∙ ap looked_up_to_c (k.inside va i); beside = λ va o. looks s' va ∙ ap looked_up_to_c (k.beside va o) ∙ sym (looks s va) };
  }

module _ (s : List ℕ) (n : Numbers) (w : WholeAt s n) where
  -- AFTER MAP: the page that was asked, in its range
  pub map_then_look_up : (base frame size rights : ℕ) → (tp_map s n base frame size rights).reason ≡ 0
      → Now s (leaves s n (c.map base frame size rights)) n base size (page base size frame rights)
  unfolding call_of call_writes
  map_then_look_up base frame size rights e =
      let l = map_meant s n base frame size rights e in
      let done = (map_says s n w.aligned base frame size rights l).done e in
      rw (call_leaves n w.aligned s (c.map base frame size rights) l) (record {
        inside = λ va i. looks n w.aligned _ va ∙ ap looked_up_to_c (look_up_after_map s (space_of n) w.role w.whole (asked base frame size rights) _ done va i) ∙ page_granted base size frame rights l;
        beside = λ va o. looks n w.aligned _ va ∙ ap looked_up_to_c (look_up_beside_map s (space_of n) w.role w.whole (asked base frame size rights) _ done va o) ∙ sym (looks n w.aligned s va);
      })

  -- AFTER UNMAP: nothing where that page was, whose frame and size it answers
  pub unmap_then_look_up : (base : ℕ) → (tp_unmap s n base).reason ≡ 0
      → Swapped s (leaves s n (c.unmap base)) n base (tp_unmap s n base).size (tp_unmap s n base).frame nothing
  unfolding call_of call_writes
  unmap_then_look_up base e =
      let done = (unmap_says s n w.aligned base).done e in
      rw (call_leaves n w.aligned s (c.unmap base) tt, ← nothing_is)
      (swapped n w.aligned (look_up_after_unmap s (space_of n) w.role w.whole base _ done))

  -- AFTER PROTECT: the same page with the new rights
  pub protect_then_look_up : (base rights : ℕ) → (tp_protect s n base rights).reason ≡ 0
      → Swapped s (leaves s n (c.protect base rights)) n base (tp_protect s n base rights).size (tp_protect s n base rights).frame
      (page base (tp_protect s n base rights).size (tp_protect s n base rights).frame rights)
  unfolding call_of call_writes
  protect_then_look_up base rights e =
      let l = protect_meant s n base rights e in
      let done = (protect_says s n w.aligned base rights l).done e in
      rw (call_leaves n w.aligned s (c.protect base rights) l)
      (subst (Swapped s _ n base _ _) (page_granted base _ _ rights l)
      (swapped n w.aligned (look_up_after_protect s (space_of n) w.role w.whole base (granted rights) _ done)))

  -- AFTER TOLD: what it was, whatever is answered
  pub told_then_look_up : (ticket va : ℕ) → tp_look_up (leaves s n (c.told ticket)) n va ≡ tp_look_up s n va
  unfolding call_of call_writes
  told_then_look_up ticket va =
      rw (call_leaves n w.aligned s (c.told ticket) tt)
      (looks n w.aligned _ va ∙ ap looked_up_to_c (look_up_after_told s (space_of n) w.role w.whole ticket va) ∙ sym (looks n w.aligned s va))

-- UNMAP AFTER MAP answers the frame and the size that were mapped, and nothing is there again
module _ (s : List ℕ) (n : Numbers) (w : WholeAt s n) (base frame size rights : ℕ) (mapped : (tp_map s n base frame size rights).reason ≡ 0) where
  after : List ℕ
  after = leaves s n (c.map base frame size rights)

  answers : (g : Gone) × (tp_unmap after n base ≡ unmapped_to_c (Ok g)) × (g.frame ≡ frame) × (g.size ≡ size)
  unfolding after call_of call_writes
  answers =
      let l = map_meant s n base frame size rights mapped in
      let u = unmap_after_map s (space_of n) w.role w.whole (asked base frame size rights) _ ((map_says s n w.aligned base frame size rights l).done mapped) in
      (u.0, unmap_answers n w.aligned after base ∙ ap unmapped_to_c (rw (call_leaves n w.aligned s (c.map base frame size rights) l) u.1), u.2, u.3)

  pub map_then_unmap : Undone s n base frame size rights
  unfolding after unmapped_to_c
  map_then_unmap = record { done = done; frame_is = ap (λ x. x.frame) answers.1 ∙ answers.2; size_is = size_is; now_is = now_is }
    where
      done : (tp_unmap after n base).reason ≡ 0
      done = ap (λ x. x.reason) answers.1

      size_is : (tp_unmap after n base).size ≡ size
      size_is = ap (λ x. x.size) answers.1 ∙ answers.3

      gone : Now after (leaves after n (c.unmap base)) n base size nothing
      gone =
          subst (λ z. Now after (leaves after n (c.unmap base)) n base z nothing) size_is
          (unmap_then_look_up after n (every_call_keeps s n w (c.map base frame size rights)) base done).now_is

      now_is : Now s (leaves after n (c.unmap base)) n base size nothing
      now_is = record { inside = gone.inside; beside = λ va o. gone.beside va o ∙ (map_then_look_up s n w base frame size rights mapped).beside va o }

-- Tickets ----------------------------------------------------------------------------------------------------------------------------

-- TOLD AFTER UNMAP takes its ticket, as long as fewer than 2^62 tables were ever set aside
module _ (s : List ℕ) (n : Numbers) (w : WholeAt s n) (base : ℕ) (done : (tp_unmap s n base).reason ≡ 0) (early : (tp_unmap s n base).ticket ≤ 2 ^ 62) where
  released : (k : ℕ) × (tp_told (leaves s n (c.unmap base)) n (tp_unmap s n base).ticket ≡ told_to_c (Ok k)) × ((tp_unmap s n base).aside ≤ k)
  unfolding call_of call_writes
  released =
      let k = told_after_unmap s (space_of n) w.role w.whole base _ ((unmap_says s n w.aligned base).done done) early in
      (k.0, told_answers n w.aligned _ (tp_unmap s n base).ticket ∙ ap told_to_c (rw (call_leaves n w.aligned s (c.unmap base) tt) k.1), k.2)

  pub unmap_then_told : Reported s n base
  unfolding told_to_c
  unmap_then_told = record { done = ap (λ x. x.reason) released.1; free_again = rw released.1 released.2 }
