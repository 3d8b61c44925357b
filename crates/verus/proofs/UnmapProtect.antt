-- UNMAP AND PROTECT, both outcomes: what the source promises follows from what ours answer and write.
use Prim.Native.Nat.{ℕ, ◌%◌, ◌<◌}
use mathlib.Core.Bool.{Bool, false, true≢false, false≢true}
use mathlib.Core.List.{List}
use mathlib.Core.Logic.{◌≢◌}
use mathlib.Core.Option.{none, some}
use mathlib.Core.Path.{◌≡◌, refl, sym, ap, ◌∙◌, subst}
use native.Mathlib.Omega.{arith}
use Rattle.std.proofs.Common.{Result, Ok, Err}
use Rattle.plan.specs.declared.unmaps.Removal.{Removal}
use Rattle.plan.specs.declared.protects.Change.{Change}
use Rattle.word.specs.Writes.{Write, after}
use Rattle.entry.specs.Entry.{size_of}
use Rattle.entry.specs.declared.Rights.{Rights}
use Rattle.walk.specs.Walk.{base_of}
use Rattle.walk.specs.declared.Found.{Found}
use Rattle.walk.specs.declared.Found.TheVariants.{Page, Nothing}
use Rattle.walk.proofs.Ranges.{page_covers}
use Rattle.tables.specs.Roles.{Role}
use Rattle.tables.proofs.Edits.{turns_inside, turns_outside}
use Rattle.tables.specs.Meaning.{meaning}
use Rattle.tables.proofs.Meaning.{never_outside}
use Rattle.tables.specs.Operation.{Changed}
use Rattle.tables.proofs.Overlap.{aligned_base}
use Rattle.pool.specs.Booked.{setting_of}
use Rattle.pool.specs.Book.{book_of}
use Rattle.pool.specs.declared.Space.{Space}
use Rattle.pool.proofs.Pages.{root_page}
use Rattle.plan.specs.Unmap as unmap
use Rattle.plan.specs.Protect as protect
use Rattle.plan.specs.Rights.{write_execute}
use Rattle.plan.specs.declared.Reason.{Reason}
use Rattle.plan.specs.declared.Reason.TheVariants.{NothingStarts}
use Rattle.effect.specs.Whole.{Whole}
use Rattle.effect.specs.StartsAt as effect
use Rattle.effect.specs.StartsAt.{StartsAt, NotProtected, write_execute_lem, not_there}
use Rattle.effect.specs.UnmapDone.{UnmapDone}
use Rattle.effect.specs.ProtectDone.{ProtectDone}
use Rattle.effect.proofs.Searching.{nowhere}
use Rattle.effect.proofs.Exactly.{unmap_exactly, protect_exactly}
use Rattle.effect.proofs.Located.{located}
use Rattle.effect.proofs.UnmapDone.{unmapped}
use Rattle.effect.proofs.UnmapInPool.{unmap_went}
use Rattle.effect.proofs.ProtectDone.{protected}
use Rattle.effect.proofs.Wholes.{root_low}
use Rattle.tablepath.specs.Answers.{unmap_answer, unmap_writes, unmap_said, gone_of, protect_answer, protect_writes, altered_of, protect_said}
use Rattle.tablepath.specs.declared.Gone.{Gone}
use Rattle.tablepath.specs.declared.Altered.{Altered}
use Rattle.verus.specs.Regions.{pte_of}
use Rattle.verus.specs.Mappings.{ContainsKey, AcceptedUnmap, inserted, removed}
use Rattle.verus.specs.Walks.{interp}
use Rattle.verus.specs.Order.{meant}
use Rattle.verus.specs.Operations.{ChangeMade, UnmapOk, ProtectOk, NotThere}
use Rattle.verus.proofs.Walks.{at_base, interp_is_meaning}
use Rattle.verus.proofs.Mappings.{In, inner_none, first_some, turned_inserts, turned_removes}
use Rattle.verus.proofs.Invariant.{inv_holds, moments_inv}
use Rattle.verus.proofs.Order.{unmap_order, protect_order}
use Rattle.verus.proofs.Framing.{unmap_framed, protect_framed}
use Rattle.verus.proofs.MapFrame.{meant_found}

module _ {h : ℕ → Bool} {sp : Space} {m : ℕ → ℕ} {role : ℕ → Role} (w : Whole h sp m role) (base : ℕ) where
  -- a base of their map is a page that starts there
  pub key_starts : ContainsKey (meant sp m) base → StartsAt (setting_of h sp) m base
  key_starts k =
      let there = subst (λ t. interp m t base ≡ some k.0) (sym (root_page sp.root (root_low w))) k.1 in
      let b = interp_is_meaning h m _ (never_outside w.sound.built) base k.0 there in
      record { address = base; size = k.0.frame.size; frame = k.0.frame.base; rights = b.rights; means = b.everywhere base (omega arith) (omega (arith, b.wide)) }

  -- every address of the page that starts at the base has it
  module _ (size frame : ℕ) (had : Rights) (before : meaning (setting_of h sp) m base ≡ Page base size frame had) where
    whole_page : (va : ℕ) → In base size va → meaning (setting_of h sp) m va ≡ Page base size frame had
    whole_page va i = (page_covers h m _ base base size frame had before).everywhere va i.0 i.1

    wide_page : 0 < size
    wide_page = omega (arith, (page_covers h m _ base base size frame had before).reaches)

    inner_page : (va : ℕ) → In base size va → va ≢ base → at_base va (meaning (setting_of h sp) m va) ≡ none
    inner_page va i n = ap (at_base va) (whole_page va i) ∙ inner_none base size frame va had n

    -- the map had it
    had_page : meant sp m base ≡ some (pte_of size frame had)
    had_page = meant_found w base ∙ ap (at_base base) before ∙ first_some base size frame had

    -- an operation that turns that range: as a change of their map
    module _ (l : ℕ) (o : Found) (xs : List Write) (role' : ℕ → Role) (is_size : size ≡ size_of l) (aligned : base % size ≡ 0)
        (changed : Changed (setting_of h sp) m role base l o xs (after m xs) role') (whole : Whole h sp (after m xs) role') where
      base_is : base_of l base ≡ base
      base_is = aligned_base l base (subst (λ z. base % z ≡ 0) is_size aligned)

      inside : (va : ℕ) → In base size va → meaning (setting_of h sp) (after m xs) va ≡ o
      inside va i = turns_inside changed.turns va (omega (arith, base_is, i.0)) (omega (arith, base_is, is_size, i.1))

      beside : (va : ℕ) → (In base size va → ⊥) → meaning (setting_of h sp) (after m xs) va ≡ meaning (setting_of h sp) m va
      beside va n = turns_outside changed.turns va (λ u v. n (omega (arith, base_is), omega (arith, base_is, is_size)))

      removal_made : o ≡ Nothing → ChangeMade h sp m xs (removed (meant sp m) base)
      removal_made is = record {
        inv = record { role = role'; whole = whole; inv = inv_holds whole };
        one = changed.change;
        moments = moments_inv changed;
        meaning = λ va. meant_found whole va
            ∙ turned_removes (meaning (setting_of h sp) m) (meaning (setting_of h sp) (after m xs)) base size o wide_page inside beside inner_page is va
            ∙ (unfold removed in rw (meant_found w va));
      }

      change_made : (r : Rights) → o ≡ Page base size frame r → ChangeMade h sp m xs (inserted (meant sp m) base (pte_of size frame r))
      change_made r is = record {
        inv = record { role = role'; whole = whole; inv = inv_holds whole };
        one = changed.change;
        moments = moments_inv changed;
        meaning = λ va. meant_found whole va
            ∙ turned_inserts (meaning (setting_of h sp) m) (meaning (setting_of h sp) (after m xs)) base size o wide_page inside beside inner_page frame r is va
            ∙ (unfold inserted in rw (meant_found w va));
      }

  -- UNMAP, OK: the base was mapped, and the frame and size that are answered are those; the one changing write was made, and the base is removed.
  pub unmap_ok : (g : Gone) → unmap_answer h m sp base ≡ Ok g → UnmapOk h sp m (unmap_writes h m sp base) base g.frame g.size
  unfolding unmap_answer unmap_writes unmap_said unmap.did_of gone_of
  unmap_ok g done = go (unmap.decide_of h m sp base) refl done
    where
      go : (x : Result Removal Reason) → unmap.decide_of h m sp base ≡ x → unmap_said (book_of m sp) x ≡ Ok g → UnmapOk h sp m (unmap.did_of sp base x) base g.frame g.size
      go (Err y) e f = let z : ◌≡◌ {A = ℕ} 0 1 = cc in absurd (omega arith)
      go (Ok r) e f =
          let d : UnmapDone h sp m role base r = unmapped w base r e in
          let same : gone_of (book_of m sp) r ≡ g = cc in
          let made = removal_made r.page.size r.page.frame d.had d.before r.page.way.level Nothing (unmap.writes_of sp base r) d.role' d.size_is d.aligned d.changed d.whole refl in
          let went = unmap_went h m sp base r e in
          subst (λ (y : Gone). UnmapOk h sp m (unmap.writes_of sp base r) base y.frame y.size) same (record {
            made = made;
            order = unmap_order h sp (root_low w) r w.sound.built (located w went.found) d.changed _ made.meaning;
            framed = λ l t c. unmap_framed w base r went l t c;
            rights = d.had;
            had = had_page r.page.size r.page.frame d.had d.before;
          })

  -- UNMAP, ERR: nothing was written, and the base was not mapped.
  pub unmap_err : (y : Reason) → unmap_answer h m sp base ≡ Err y → NotThere sp m (unmap_writes h m sp base) base
  unfolding unmap_answer unmap_writes unmap_said unmap.did_of
  unmap_err y refused = go (unmap.decide_of h m sp base) refl refused
    where
      go : (x : Result Removal Reason) → unmap.decide_of h m sp base ≡ x → unmap_said (book_of m sp) x ≡ Err y → NotThere sp m (unmap.did_of sp base x) base
      go (Ok r) e f = let z : ◌≡◌ {A = ℕ} 0 1 = cc in absurd (omega arith)
      go (Err z) e f =
          record { unchanged = refl; missing = λ k. nowhere (setting_of h sp) m base z (((unmap_exactly w base).refused z).0 e) (key_starts k) }

  -- where accepted_unmap holds, one reason is left, which is the source's
  pub accepted_refused : (y : Reason) → unmap_answer h m sp base ≡ Err y → AcceptedUnmap base → y ≡ NothingStarts
  unfolding unmap_answer unmap_said
  accepted_refused y refused a = go (unmap.decide_of h m sp base) refl refused
    where
      one : (z : Reason) → effect.NotThere (setting_of h sp) m base z → z ≡ NothingStarts
      one z (effect.no_address n) = absurd (false≢true (sym n ∙ a.address))
      one z (effect.none_starts n k) = refl

      go : (x : Result Removal Reason) → unmap.decide_of h m sp base ≡ x → unmap_said (book_of m sp) x ≡ Err y → y ≡ NothingStarts
      go (Ok r) e f = let z : ◌≡◌ {A = ℕ} 0 1 = cc in absurd (omega arith)
      go (Err z) e f = let same : z ≡ y = cc in sym same ∙ one z (((unmap_exactly w base).refused z).0 e)

  -- PROTECT, OK: the base was mapped; the one changing write was made; it has the same frame with the new flags.
  pub protect_ok : (r : Rights) (g : Altered) → protect_answer h m sp base r ≡ Ok g → ProtectOk h sp m (protect_writes h m sp base r) base g.frame g.size r
  unfolding protect_answer protect_writes protect_said altered_of protect.did_of change_made
  protect_ok r g done = go (protect.decide_of h m sp base r) refl done
    where
      go : (x : Result Change Reason) → protect.decide_of h m sp base r ≡ x → protect_said x ≡ Ok g → ProtectOk h sp m (protect.did_of x) base g.frame g.size r
      go (Err y) e f = let z : ◌≡◌ {A = ℕ} 0 1 = cc in absurd (omega arith)
      go (Ok c) e f =
          let d : ProtectDone h sp m role base r c = protected w base r c e in
          let same : altered_of c ≡ g = cc in
          let made = change_made c.size c.frame d.had d.before d.level (Page base c.size c.frame r) (protect.writes_of c) role d.size_is d.aligned d.changed d.whole r refl in
          subst (λ (y : Altered). ProtectOk h sp m (protect.writes_of c) base y.frame y.size r) same (record {
            made = made;
            order = protect_order sp m c _ made.meaning;
            framed = protect_framed w base r c e;
            before = d.had;
            had = had_page c.size c.frame d.had d.before;
          })

  -- PROTECT, ERR, where the page would not be writable and executable, which the source allows
  pub protect_err : (r : Rights) (y : Reason) → protect_answer h m sp base r ≡ Err y → write_execute r ≡ false → NotThere sp m (protect_writes h m sp base r) base
  unfolding protect_answer protect_writes protect_said protect.did_of
  protect_err r y refused strict = go (protect.decide_of h m sp base r) refl refused
    where
      only_there : (z : Reason) → NotProtected (setting_of h sp) m base r z → effect.NotThere (setting_of h sp) m base z
      only_there z (write_execute_lem x) = absurd (true≢false (sym x ∙ strict))
      only_there z (not_there z' x n) = n

      go : (x : Result Change Reason) → protect.decide_of h m sp base r ≡ x → protect_said x ≡ Err y → NotThere sp m (protect.did_of x) base
      go (Ok c) e f = let z : ◌≡◌ {A = ℕ} 0 1 = cc in absurd (omega arith)
      go (Err z) e f =
          record { unchanged = refl; missing = λ k. nowhere (setting_of h sp) m base z (only_there z (((protect_exactly w base r).refused z).0 e)) (key_starts k) }
