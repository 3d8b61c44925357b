-- A WITNESS of honest and complete nights, with tables in it: of any five pages a pool is made, a page is mapped, which takes three tables, and
-- unmapped, which sets them aside; a shootdown tells its addresses, and the ticket is reported.
use Prim.Native.Nat.{ℕ, ◌%◌, ◌<◌, ◌*◌}
use mathlib.Core.Bool.{Bool, true}
use mathlib.Core.List.{List, [], ◌∷◌, ◌++◌, append-nil}
use mathlib.Core.Logic.{inl, inr}
use mathlib.Core.Path.{◌≡◌, refl, sym, ap, ◌∙◌, subst}
use native.Mathlib.Decide.{dec_lt}
use native.Mathlib.Omega.{arith}
use Rattle.std.proofs.Common.{Ok}
use lib.ListN.{length}
use Rattle.word.specs.Memory.{at}
use Rattle.word.specs.Writes.{Write}
use Rattle.word.specs.Writes as word
use Rattle.entry.specs.Entry.{size_of, everything}
use Rattle.entry.specs.declared.Entry.TheVariants.{Table}
use Rattle.walk.specs.Walk.{canonical, base_of}
use Rattle.walk.specs.declared.Found.TheVariants as found
use Rattle.walk.proofs.Ranges.{page_covers}
use Rattle.world.specs.Events.{Event, write, happen, after}
use Rattle.world.specs.Reports.{from_now, each_longer, now, last, underway, oldest, Caches}
use Rattle.tables.specs.Walks.{Position}
use Rattle.walk.specs.declared.Found.{Found}
use Rattle.tables.specs.Roles.{table, entry_at}
use Rattle.tables.proofs.Near.{near_range}
use Rattle.tables.proofs.Way.{comes_parent}
use Rattle.tables.specs.Meaning.{meaning}
use Rattle.tables.proofs.Overlap.{table_mapped, aligned_base}
use Rattle.tables.proofs.Sentences.{reached}
use Rattle.tables.specs.Clearing.{events_of}
use Rattle.pool.specs.Book.{book_of, page_at, ticket_of}
use Rattle.pool.specs.Booked.{setting_of, Numbered, new_role}
use Rattle.pool.specs.declared.Space.{Space}
use Rattle.plan.specs.Map as map
use Rattle.plan.specs.Unmap as unmap
use Rattle.plan.specs.declared.unmaps.Removal.{Removal}
use Rattle.effect.specs.Whole.{Whole}
use Rattle.effect.specs.UnmapDone.{UnmapDone}
use Rattle.effect.proofs.MapDone.{mapped_outside}
use Rattle.effect.proofs.UnmapDone.{unmapped}
use Rattle.effect.proofs.Exactly.{unmap_exactly}
use Rattle.tablepath.specs.Answers.{map_writes, unmap_answer, unmap_writes}
use Rattle.tablepath.specs.declared.Gone.{Gone}
use Rattle.tablepath.specs.Calls.{Call, Within, call_writes, Act, act_writes}
use Rattle.tablepath.specs.Calls as calls
use Rattle.tablepath.specs.Nights.{Night, history, last_began, behind, front, joined, lately, due, covered, uncovered, Some, untold_kept, waiting, code_sees, Unmaps, Protects, Hit, Hits, Gets, Allowed, Honest, Telling, Exact}
use Rattle.tablepath.specs.Nights as night
use Rattle.tablepath.specs.Gone.{dawn, Avoids, MappedAt, Maps, StillMapped}
use Rattle.tablepath.proofs.Marking.{saw_self}
use Rattle.tablepath.proofs.Says.{unmap_says}
use Rattle.tablepath.proofs.Nights.{exact_complete}
use Rattle.tablepath.proofs.FrameGone.{frame_gone}
use Rattle.tablepath.specs.Witness.{five, of_data, page}
use Rattle.tablepath.proofs.Witness.{nothing_yet, goes, five_pages, start, none_mapped}
use Rattle.tablepath.specs.NightWitness.{arrive, act, calm, window, contents, mapped, gone, shot, reported}

-- A call whose writes reach memory at once ------------------------------------------------------------------------------------------------

module _ (h : ℕ → Bool) (sp : Space) where
  arrive_honest : (C : Caches Position Found) (ws : List Write) (N : Night) (rest : List (Event ℕ)) → Honest h sp C N → waiting h sp N ≡ events_of ws ++ rest
      → Honest h sp C (arrive N ws) × (waiting h sp (arrive N ws) ≡ rest)
  unfolding arrive events_of Honest Allowed waiting
  arrive_honest C [] N rest k e = (k, e)
  arrive_honest C (w ∷ ws) N rest k e =
      arrive_honest C ws (night.happens N (write (at w.page w.index) w.word)) rest (k, (events_of ws ++ rest, e)) (ap behind e)

  -- what it leaves
  record SameNight (N M : Night) : Type 0 where
    began : last_began M ≡ last_began N
    dues : due M ≡ due N
    recent : lately M ≡ lately N
    none : underway (history N) ≡ [] → underway (history M) ≡ []
    told : Exact h sp N → Exact h sp M
    cover : covered M ≡ covered N
    first : dawn M ≡ dawn N

  arrive_same : (ws : List Write) (N : Night) → SameNight N (arrive N ws)
  unfolding arrive history last underway each_longer due lately Telling covered dawn
  arrive_same [] N = record { began = refl; dues = refl; recent = refl; none = λ u. u; told = λ c. c; cover = refl; first = refl }
  arrive_same (w ∷ ws) N =
      let s = arrive_same ws (night.happens N (write (at w.page w.index) w.word)) in
      record { began = s.began; dues = s.dues; recent = s.recent; none = λ u. s.none (ap (each_longer (write (at w.page w.index) w.word)) u); told = s.told; cover = s.cover; first = s.first }

  arrive_now : (ws : List Write) (N : Night) → now (history (arrive N ws)) ≡ word.after (now (history N)) ws
  unfolding arrive history now happen word.after
  arrive_now [] N = refl
  arrive_now (w ∷ ws) N = arrive_now ws (night.happens N (write (at w.page w.index) w.word))

  module _ (C : Caches Position Found) (N : Night) (k : Honest h sp C N) (empty : waiting h sp N ≡ []) where
    seen_now : code_sees h sp N ≡ now (history N)
    unfolding after
    seen_now = ap (after (now (history N))) empty

    calm_honest : (c : Call) → Within (ticket_of (book_of (last_began N) sp)) c → Honest h sp C (calm h sp N c) × (waiting h sp (calm h sp N c) ≡ [])
    unfolding calm act Honest waiting
    calm_honest c within =
        arrive_honest C (call_writes h (code_sees h sp N) sp c) (night.calls N (act h sp N c)) [] (k, saw_self sp (code_sees h sp N), within)
        (ap (λ l. l ++ act_writes h sp (act h sp N c)) empty ∙ sym (append-nil (act_writes h sp (act h sp N c))))

    calm_now : (c : Call) → now (history (calm h sp N c)) ≡ word.after (now (history N)) (call_writes h (now (history N)) sp c)
    unfolding calm act history
    calm_now c = arrive_now (call_writes h (code_sees h sp N) sp c) (night.calls N (act h sp N c)) ∙ ap (λ x. word.after (now (history N)) (call_writes h x sp c)) seen_now

  calm_same : (N : Night) (c : Call) → SameNight (night.calls N (act h sp N c)) (calm h sp N c)
  unfolding calm
  calm_same N c = arrive_same (call_writes h (code_sees h sp N) sp c) (night.calls N (act h sp N c))

-- Five pages -----------------------------------------------------------------------------------------------------------------------------------

module _ (s : List ℕ) (e : length s ≡ 20480) where
  -- The page is mapped
  abbrev m₁ : ℕ → ℕ
  m₁ = word.after (contents s) (map.writes_of five (goes s e).0)

  whole₁ : Whole (window s) five m₁ (five_pages s e).0
  whole₁ = (five_pages s e).1

  means₁ : meaning (setting_of (window s) five) m₁ 0 ≡ found.Page 0 4096 1048576 of_data
  means₁ = (five_pages s e).3

  -- and unmapped
  removes : (r : Removal) × (unmap.decide_of (window s) m₁ five 0 ≡ Ok r)
  removes = (unmap_exactly whole₁ 0).succeeds.1 (record { address = 0; size = 4096; frame = 1048576; rights = of_data; means = means₁ })

  removed : UnmapDone (window s) five m₁ (five_pages s e).0 0 removes.0
  removed = unmapped whole₁ 0 removes.0 removes.1

  abbrev m₂ : ℕ → ℕ
  m₂ = word.after m₁ (unmap.writes_of five 0 removes.0)

  same_page : found.Page 0 removes.0.page.size removes.0.page.frame removed.had ≡ found.Page 0 4096 1048576 of_data
  same_page = sym removed.before ∙ means₁

  long : removes.0.page.size ≡ 4096
  long = cc same_page

  -- so that nothing is mapped
  nothing₂ : (va : ℕ) → canonical va ≡ true → meaning (setting_of (window s) five) m₂ va ≡ found.Nothing
  nothing₂ va a = go (dec_lt va 4096)
    where
      level : ℕ
      level = removes.0.page.way.level

      size_is : size_of level ≡ 4096
      size_is = sym removed.size_is ∙ long

      base : base_of level 0 ≡ 0
      base = aligned_base level 0 (subst (λ z. 0 % z ≡ 0) removed.size_is removed.aligned)

      go : Dec (va < 4096) → meaning (setting_of (window s) five) m₂ va ≡ found.Nothing
      go (yes u) = removed.changed.turns.in_range va ((near_range level 0 va).1 (omega (arith, base), omega (arith, base, size_is)))
      go (no u) =
          removed.changed.turns.elsewhere va (λ n. let r = (near_range level 0 va).0 n in omega (arith, base, size_is, r.1))
          ∙ mapped_outside (start s e) page (goes s e).0 (goes s e).2 va (λ x y. omega arith) ∙ nothing_yet (start s e) va a

  -- and the three tables are set aside
  aside₂ : (j : ℕ) → j < 3 → (k : ℕ) × Numbered m₂ five (page_at (contents s) five j) k
  aside₂ j u = elim (removed.fate (page_at (contents s) five j)) [ inr a ↦ (a.number, a.numbered) | inl f ↦ absurd (table_still f) ]
    where
      was : (l : ℕ) × (q : ℕ) × (i : ℕ) × ((five_pages s e).0 (page_at (contents s) five j) ≡ table l q i)
      was = (five_pages s e).2 j u

      -- a table would still lead to a page
      table_still : removed.role' (page_at (contents s) five j) ≡ (five_pages s e).0 (page_at (contents s) five j) → ⊥
      table_still f =
          let b = removed.whole.sound.built in
          let is = f ∙ was.3 in
          let c = reached b (page_at (contents s) five j) was.0 was.1 was.2 is in
          let p = comes_parent b is c.1 in
          let up = b.up (page_at (contents s) five j) was.0 was.1 was.2 is in
          let x = table_mapped b removed.whole.sound.filled p.0 (subst (λ i. entry_at m₂ was.0 was.1 i ≡ Table (page_at (contents s) five j) everything) (sym p.2) up.2) in
          let a = (page_covers (window s) m₂ (4096 * five.root) x.address x.start x.long x.frame x.rights x.means).address in
          let z : ◌≡◌ {A = ℕ} 0 1 = cc (nothing₂ x.address a, x.means) in
          omega arith

  -- The night ---------------------------------------------------------------------------------------------------------------------------------

  honest₀ : Honest (window s) five untold_kept (night.dusk (contents s))
  honest₀ = unfold Honest in (new_role five, start s e)

  honest₁ : Honest (window s) five untold_kept (mapped s) × (waiting (window s) five (mapped s) ≡ [])
  honest₁ = calm_honest (window s) five untold_kept (night.dusk (contents s)) honest₀ (unfold waiting in refl) (calls.map page) tt

  honest₂ : Honest (window s) five untold_kept (gone s) × (waiting (window s) five (gone s) ≡ [])
  honest₂ = calm_honest (window s) five untold_kept (mapped s) honest₁.0 honest₁.1 (calls.unmap 0) tt

  now₁ : now (history (mapped s)) ≡ m₁
  unfolding call_writes map_writes map.did_of history now
  now₁ = calm_now (window s) five untold_kept (night.dusk (contents s)) honest₀ (unfold waiting in refl) (calls.map page) ∙ ap (λ x. word.after (contents s) (map.did_of five x)) (goes s e).1

  now₂ : now (history (gone s)) ≡ m₂
  unfolding call_writes unmap_writes unmap.did_of
  now₂ = calm_now (window s) five untold_kept (mapped s) honest₁.0 honest₁.1 (calls.unmap 0)
      ∙ ap (λ x. word.after x (unmap.did_of five 0 (unmap.decide_of (window s) x five 0))) now₁ ∙ ap (λ x. word.after m₁ (unmap.did_of five 0 x)) removes.1

  none_due : due (gone s) ≡ []
  unfolding due
  none_due = (calm_same (window s) five (mapped s) (calls.unmap 0)).dues ∙ (calm_same (window s) five (night.dusk (contents s)) (calls.map page)).dues

  none_underway : underway (history (gone s)) ≡ []
  unfolding underway history
  none_underway = (calm_same (window s) five (mapped s) (calls.unmap 0)).none ((calm_same (window s) five (night.dusk (contents s)) (calls.map page)).none refl)

  abbrev acts : List Act
  acts = act (window s) five (night.dusk (contents s)) (calls.map page) ∷ (act (window s) five (mapped s) (calls.unmap 0) ∷ [])

  made : lately (gone s) ≡ acts
  unfolding lately
  made = (calm_same (window s) five (mapped s) (calls.unmap 0)).recent ∙ ap (λ l. l ++ (act (window s) five (mapped s) (calls.unmap 0) ∷ [])) (calm_same (window s) five (night.dusk (contents s)) (calls.map page)).recent

  honest₃ : Honest (window s) five untold_kept (shot s)
  unfolding Honest due
  honest₃ = ((honest₂.0, honest₂.1), lately (gone s), [], ap (λ l. l ++ (lately (gone s) ∷ [])) none_due)

  began₃ : last_began (shot s) ≡ m₂
  unfolding history last underway oldest now
  began₃ = ap (λ l. (oldest (now (history (gone s))) (l ++ (from_now (now (history (gone s))) ∷ []))).began) none_underway ∙ now₂

  complete₃ : Exact (window s) five (shot s)
  unfolding Telling due
  complete₃ = (
    (calm_same (window s) five (mapped s) (calls.unmap 0)).told ((calm_same (window s) five (night.dusk (contents s)) (calls.map page)).told tt),
    λ va k. hits va (subst (λ l. Hits (window s) five (Hit (window s) five) l va) made (subst (λ l. Hits (window s) five (Hit (window s) five) (front (l ++ (lately (gone s) ∷ []))) va) none_due k)),
  )
    where
      answered : (g : Gone) → unmap_answer (window s) (code_sees (window s) five (mapped s)) five 0 ≡ Ok g → g.size ≡ 4096
      answered g a =
          let there : unmap_answer (window s) m₁ five 0 ≡ Ok g = subst (λ x. unmap_answer (window s) x five 0 ≡ Ok g) (seen_now (window s) five untold_kept (mapped s) honest₁.0 honest₁.1 ∙ now₁) a in
          let p : found.Page 0 g.size g.frame _ ≡ found.Page 0 4096 1048576 of_data = sym ((unmap_says whole₁ 0).gone g there).before ∙ means₁ in
          cc

      hits : (va : ℕ) → Hits (window s) five (Hit (window s) five) acts va → va < 4096
      hits va k = unfold Some Unmaps Protects act in elim k [
        | inl (inl x) ↦ absurd x
        | inl (inr x) ↦ absurd x
        | inr (inl (inl x)) ↦ omega (arith, x.3, answered x.0 x.1)
        | inr (inl (inr x)) ↦ absurd x
        | inr (inr x) ↦ absurd x
      ]

  -- THE WITNESS
  pub night_witness : Honest (window s) five untold_kept (reported s) × Exact (window s) five (reported s) × ((j : ℕ) → j < 3 → (k : ℕ) × Numbered (last_began (reported s)) five (page_at (contents s) five j) k)
  unfolding Telling history
  night_witness =
      let after_told = calm_same (window s) five (shot s) (calls.told (ticket_of (book_of (last_began (shot s)) five))) in (
        (calm_honest (window s) five untold_kept (shot s) honest₃ (unfold waiting in honest₂.1) (calls.told (ticket_of (book_of (last_began (shot s)) five))) (omega arith)).0,
        after_told.told complete₃,
        λ j u. rw (after_told.began, began₃) (aside₂ j u),
      )

  -- SO THE FRAME IS GONE: of the page that was mapped and unmapped nothing is given.
  frame_mapped : (b : ℕ) → ¬ StillMapped (window s) five 1048576 4096 (MappedAt (window s) five 1048576 4096 (dawn (reported s))) (covered (reported s)) b
  unfolding StillMapped covered due dawn act
  frame_mapped b k =
      go (subst (λ l. StillMapped (window s) five 1048576 4096 (MappedAt (window s) five 1048576 4096 (contents s)) l b) list (subst (λ x. StillMapped (window s) five 1048576 4096 (MappedAt (window s) five 1048576 4096 x) (covered (reported s)) b) dawns k))
    where
      dawns : dawn (reported s) ≡ contents s
      dawns = (calm_same (window s) five (shot s) (calls.told (ticket_of (book_of (last_began (shot s)) five)))).first ∙ (calm_same (window s) five (mapped s) (calls.unmap 0)).first ∙ (calm_same (window s) five (night.dusk (contents s)) (calls.map page)).first

      list : covered (reported s) ≡ acts
      list = (calm_same (window s) five (shot s) (calls.told (ticket_of (book_of (last_began (shot s)) five)))).cover
          ∙ ap (λ l. l ++ front (due (gone s) ++ (lately (gone s) ∷ []))) ((calm_same (window s) five (mapped s) (calls.unmap 0)).cover ∙ (calm_same (window s) five (night.dusk (contents s)) (calls.map page)).cover)
          ∙ ap (λ l. front (l ++ (lately (gone s) ∷ []))) none_due ∙ made

      go : StillMapped (window s) five 1048576 4096 (MappedAt (window s) five 1048576 4096 (contents s)) acts b → ⊥
      go (inl (inl at_first, other), last) = none_mapped (start s e) at_first.address _ _ _ _ at_first.meant
      go (inl (inr by_map, other), last) =
          let same : calls.map page ≡ calls.map by_map.asked = by_map.is_map in
          let base : 0 ≡ b = cc (same, by_map.at_base) in
          last (ap calls.unmap base)
      go (inr by_unmap, last) = let z : ◌≡◌ {A = ℕ} 0 1 = cc by_unmap.is_map in omega arith

  pub frame_witness : (va : ℕ) (o : Found) → Gets (window s) five untold_kept (reported s) va o → Avoids 1048576 4096 o
  unfolding due lately Some act
  frame_witness = frame_gone (window s) five (reported s) night_witness.0 (exact_complete (window s) five (reported s) night_witness.1) 1048576 4096 frame_mapped (λ b k. spares b (subst (Some (Maps (window s) five 1048576 4096 b)) list k))
    where
      told' : Call
      told' = calls.told (ticket_of (book_of (last_began (shot s)) five))

      list : uncovered (reported s) ≡ act (window s) five (shot s) told' ∷ []
      list = ap (λ l. joined l ++ lately (reported s)) ((calm_same (window s) five (shot s) told').dues ∙ ap (λ l. behind (l ++ (lately (gone s) ∷ []))) none_due) ∙ (calm_same (window s) five (shot s) told').recent

      spares : (b : ℕ) → ¬ Some (Maps (window s) five 1048576 4096 b) (act (window s) five (shot s) told' ∷ [])
      spares b (inl x) = let z : ◌≡◌ {A = ℕ} 0 1 = cc x.is_map in omega arith
      spares b (inr x) = x
