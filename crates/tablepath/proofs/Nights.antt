-- THE WHOLE NIGHT: whatever a walk ends with or a cache gives, at any moment of a night of calls, shootdowns and reports, is what its address
-- meant at some moment since the shootdown began that was the last to tell it; and where each one tells all that it has to, since the last.
-- Statements: specs/Shown.antt.
use Prim.Native.Nat.{ℕ, ◌*◌}
use mathlib.Core.Bool.{Bool}
use mathlib.Core.List.{List, [], ◌∷◌, ◌++◌, append-nil}
use mathlib.Core.Logic.{◌⊎◌, inl, inr}
use mathlib.Core.Path.{◌≡◌, refl, sym, ap, ◌∙◌, subst}
use Rattle.walk.specs.declared.Found.{Found}
use Rattle.walk.specs.declared.Place.{Place}
use Rattle.walk.specs.declared.Place.TheVariants.{Going, Ended}
use Rattle.world.specs.Events.{Event, write, mark, store, happen, Among, All}
use Rattle.world.proofs.Events.{among_map, all_last}
use Rattle.world.specs.Marks.{writes}
use Rattle.world.specs.Walker.{Reads}
use Rattle.tables.specs.Walks.{Position, SamePrefix}
use Rattle.tables.proofs.Walks.{one_space_meaning, laws_of}
use Rattle.world.specs.Reports.{from_now, now, last, next, Caches, NoMore, Held, Disciplined, WasOn, Untold, Tells, Fresh, Enough}
use Rattle.world.proofs.Reports.{last_ends, fresh, reaches_none, half_on, as_if_all, flushed, no_more_held}
use Rattle.tables.specs.Discipline.{walker_of}
use Rattle.pool.specs.Book.{book_of, ticket_of}
use Rattle.pool.specs.Booked.{setting_of}
use Rattle.pool.specs.declared.Space.{Space}
use Rattle.tablepath.specs.Calls.{means, Call, Act, wrote, Others, Reached}
use Rattle.tablepath.specs.Nights.{Night, dusk, calls, happens, begins, done, history, last_began, last_since, behind, front, Some, due, uncovered, IsPage, IsHalf, IsFinished, but_rights, untold_kept, upper_dropped, waiting, Unmaps, Hit, Hits, Gets, MayRead, Allowed, Honest, Telling, Complete, Exact, Flushes}
use Rattle.tablepath.specs.Shown.{NightAnswer, NightPage, NightFresh, NightFlushed, StaysOut, UpperHolds}
use Rattle.tablepath.proofs.Serving.{IsBuilt}
use Rattle.tablepath.proofs.Lasting.{Tracks, exactly, but_rights_lem}
use Rattle.tablepath.proofs.Periods.{Later}
use Rattle.tablepath.proofs.Caching.{finishes}
use Rattle.tablepath.proofs.Facts.{Facts, facts_dusk, facts_calls, facts_event, facts_begins, facts_done}
use Rattle.tablepath.proofs.Telling.{last_built, last_thawed, OutsidePool, means_outside, meant_outside, given_outside, half_later, half_told, page_told}

-- caches that keep finished translations, and these half-done walks
abbrev caches_of : (Position → Type 0) → Caches Position Found
caches_of half = record { half = half; finished = λ p. IsFinished p.place; page = IsPage }

module _ (h : ℕ → Bool) (sp : Space) where
  -- WHAT AN HONEST NIGHT SHOWS ---------------------------------------------------------------------------------------------------------------

  record Sure (half : Position → Type 0) (N : Night) : Type 0 where
    facts : Facts h sp N
    keeps : Disciplined (walker_of (setting_of h sp)) (history N)
    tells : Tells (walker_of (setting_of h sp)) (caches_of half) (history N)
    outside : (va : ℕ) (o : Found) → Fresh (walker_of (setting_of h sp)) (caches_of half) (history N) va o → OutsidePool h sp o

  module _ (half : Position → Type 0) (sub : (p : Position) → half p → IsHalf p.place) where
    given_apart : (N : Night) → Sure half N → StaysOut h sp (caches_of half) N
    given_apart N s a g =
        given_outside h sp (caches_of half) N a g
        (s.outside g.address _
        (fresh (walker_of (setting_of h sp)) (laws_of (setting_of h sp)) (caches_of half) (finishes h sp half) (history N) s.keeps s.tells g.address g.gets.place _ g.gets.held g.gets.gives))

    -- what happens: a write that waited first, a mark, or another's store outside the pool
    pub record MayHappen (N : Night) (e : Event ℕ) : Type 0 where
      pub rest : List (Event ℕ)
      pub order : writes (e ∷ []) ++ rest ≡ waiting h sp N
      pub left_over : waiting h sp (happens N e) ≡ rest
      pub others : Others sp (now (history N)) (e ∷ [])

    allowed_fits : (N : Night) (e : Event ℕ) → Sure half N → Allowed h sp (caches_of half) N e → MayHappen N e
    unfolding Allowed waiting writes Others
    allowed_fits N (write a v) s (rest, w) = record { rest = rest; order = sym w; left_over = ap behind w; others = tt }
    allowed_fits N (mark a v) s k = record { rest = waiting h sp N; order = refl; left_over = refl; others = (k, tt) }
    allowed_fits N (store a v) s (inl k) = record { rest = waiting h sp N; order = refl; left_over = refl; others = (k, tt) }
    allowed_fits N (store a v) s (inr k) = record { rest = waiting h sp N; order = refl; left_over = refl; others = (given_apart N s a k, tt) }

    sure_event : (N : Night) (e : Event ℕ) → Sure half N → Facts h sp (happens N e) → Sure half (happens N e)
    unfolding history Disciplined Tells Fresh last now
    sure_event N e s f = record {
      facts = f;
      keeps = (s.keeps, last_thawed h sp (happens N e) f);
      tells = s.tells;
      outside = λ va o k. elim k [ inl a ↦ s.outside va o a | inr a ↦ means_outside h sp (happen (now (history N)) e) built va o a ];
    }
      where
        built : IsBuilt h sp (happen (now (history N)) e)
        built = subst (IsBuilt h sp) (last_ends (history (happens N e))) (all_last (last_since (happens N e)) (last_began (happens N e)) (IsBuilt h sp) (last_built h sp (happens N e) f))

    sure_done : (N : Night) (T : ℕ → Type 0) (D : List Act) (Ds : List (List Act)) → due N ≡ D ∷ Ds → Sure half N
        → ((va : ℕ) (p : Position) → half p → Untold (walker_of (setting_of h sp)) T va p → WasOn (walker_of (setting_of h sp)) (last (history N)) va p → WasOn (walker_of (setting_of h sp)) (next (history N)) va p)
        → Sure half (done N T)
    unfolding history Disciplined Tells Fresh last now
    sure_done N T D Ds e s told = record {
      facts = f;
      keeps = (s.keeps, last_thawed h sp (done N T) f);
      tells = (s.tells, told);
      outside = λ va o i. elim i [ inl a ↦ meant_outside h sp (done N T) f va o a | inr a ↦ s.outside va o a.2 ];
    }
      where
        f : Facts h sp (done N T)
        f = facts_done h sp N T D Ds e s.facts

    sure : (N : Night) → Honest h sp (caches_of half) N → Complete h sp N ⊎ ((p : Position) → ¬ half p) → Sure half N
    unfolding Honest Telling history Disciplined Tells Fresh last now
    sure (dusk m) (role, w) t = record { facts = facts_dusk h sp m role w; keeps = tt; tells = tt; outside = means_outside h sp m (role, w.sound.built) }
    sure (calls N a) (k, saw, within) t =
        let s = sure N k t in
        record { facts = facts_calls h sp N a s.facts saw within; keeps = s.keeps; tells = s.tells; outside = s.outside }
    sure (happens N e) (k, a) t =
        let s = sure N k t in
        let x = allowed_fits N e s a in
        sure_event N e s (facts_event h sp N e x.rest s.facts x.order x.left_over x.others)
    sure (begins N) (k, w) t = let s = sure N k t in record { facts = facts_begins h sp N s.facts w; keeps = s.keeps; tells = s.tells; outside = s.outside }
    sure (done N T) (k, D, Ds, e) (inl c) = let s = sure N k (inl c.0) in sure_done N T D Ds e s (λ va p x. half_told h sp N T D Ds e s.facts c.1 va p (sub p x))
    sure (done N T) (k, D, Ds, e) (inr n) = sure_done N T D Ds e (sure N k (inr n)) (λ va p x. absurd (n p x))

  -- telling more is telling
  pub telling_less : (G H : Call → (ℕ → ℕ) → ℕ → Type 0) → ((c : Call) (s : ℕ → ℕ) (va : ℕ) → G c s va → H c s va) → (N : Night) → Telling h sp H N → Telling h sp G N
  unfolding Telling Some
  telling_less G H less (dusk m) c = tt
  telling_less G H less (calls N a) c = telling_less G H less N c
  telling_less G H less (happens N e) c = telling_less G H less N c
  telling_less G H less (begins N) c = telling_less G H less N c
  telling_less G H less (done N T) c = (telling_less G H less N c.0, λ va k. c.1 va (some_less (front (due N)) va k))
    where
      some_less : (cs : List Act) (va : ℕ) → Hits h sp G cs va → Hits h sp H cs va
      some_less [] va k = k
      some_less (a ∷ cs) va k = elim k [ inl x ↦ inl (less a.call a.saw va x) | inr x ↦ inr (some_less cs va x) ]

  -- AN EXACT NIGHT IS COMPLETE, and one of full flushes is exact.
  pub exact_complete : (N : Night) → Exact h sp N → Complete h sp N
  exact_complete = telling_less (Unmaps h sp) (Hit h sp) (λ c s va x. inl x)

  pub flushes_exact : (N : Night) → Flushes N → Exact h sp N
  unfolding Flushes Telling
  flushes_exact (dusk m) f = tt
  flushes_exact (calls N a) f = flushes_exact N f
  flushes_exact (happens N e) f = flushes_exact N f
  flushes_exact (begins N) f = flushes_exact N f
  flushes_exact (done N T) f = (flushes_exact N f.0, λ va k. f.1 va)

  pub night_flushed : (N : Night) → NightFlushed h sp N
  unfolding history
  night_flushed N T all C va p = flushed (walker_of (setting_of h sp)) (laws_of (setting_of h sp)) C (history N) T all va p

  abbrev Half : Position → Type 0
  Half p = IsHalf p.place

  -- WHERE EACH SHOOTDOWN TELLS THE UNMAPPED ADDRESSES (AMD's, with EFER.TCE)
  module _ (N : Night) (honest : Honest h sp untold_kept N) (complete : Complete h sp N) where
    abbrev s : Sure Half N
    s = sure Half (λ p x. x) N honest (inl complete)

    pub night_facts : Facts h sp N
    night_facts = (sure Half (λ p x. x) N honest (inl complete)).facts

    -- whatever is given, its address meant it at some moment since the shootdown began that was the last to tell it
    pub night_told_fresh : (va : ℕ) (o : Found) → Gets h sp untold_kept N va o → Fresh (walker_of (setting_of h sp)) untold_kept (history N) va o
    night_told_fresh va o g =
        fresh (walker_of (setting_of h sp)) (laws_of (setting_of h sp)) untold_kept (finishes h sp Half) (history N) s.keeps s.tells va g.place o g.held g.gives

    -- a word that the walk of an address reads at no moment of the last period is read from nothing that is held
    pub night_reads : (va x : ℕ) → All (last_began N) (last_since N) (λ y. ¬ Reads (walker_of (setting_of h sp)) y va ((walker_of (setting_of h sp)).start va) x) → ¬ MayRead h sp untold_kept N va x
    night_reads va x none r =
        reaches_none (walker_of (setting_of h sp)) (laws_of (setting_of h sp)) untold_kept (finishes h sp Half) (history N) s.keeps s.tells va x none r.place r.held r.reads

    -- a half-done walk that is held was on its way in the last period
    half_was_on : (va : ℕ) (p : Position) → Held (walker_of (setting_of h sp)) untold_kept (history N) va p → IsHalf p.place → WasOn (walker_of (setting_of h sp)) (last (history N)) va p
    half_was_on va p held half = half_on (walker_of (setting_of h sp)) (laws_of (setting_of h sp)) untold_kept (finishes h sp Half) (history N) s.keeps s.tells va p held (not_both p half)
      where
        not_both : (p : Position) → IsHalf p.place → ¬ IsFinished p.place
        not_both p = go p.place
          where
            go : (q : Place) → IsHalf q → ¬ IsFinished q
            go (Going t r) x y = unfold IsFinished in y
            go (Ended f) x y = unfold IsHalf in x

    pub stays_out : StaysOut h sp untold_kept N
    stays_out = given_apart Half (λ p x. x) N s

    -- what happens next is a write that waited first, a mark, or another's store outside the pool
    pub night_fits : (e : Event ℕ) → Allowed h sp untold_kept N e → MayHappen Half (λ p x. x) N e
    night_fits e = allowed_fits Half (λ p x. x) N e s

    pub upper_holds : UpperHolds h sp N
    unfolding Among
    upper_holds empty va p held half none = elim later [ inl b ↦ b | inr c ↦ absurd (none c.0 c.2.above c.1) ]
      where
        f : Facts h sp N
        f = night_facts

        all : writes (last_since N) ≡ wrote h sp (uncovered N)
        all = sym (append-nil (writes (last_since N))) ∙ ap (λ l. writes (last_since N) ++ l) (sym (f.reached.1 ∙ empty)) ∙ f.reached.0.in_order

        since : Later h sp (last (history N)) (from_now (now (history N))) (uncovered N)
        since = record { before = last_since N; since_is = sym (append-nil (last_since N)); began_is = sym (last_ends (history N)); all_wrote = all }

        later : WasOn (walker_of (setting_of h sp)) (from_now (now (history N))) va p ⊎ ((vb : ℕ) × Hits h sp (Unmaps h sp) (uncovered N) vb × SamePrefix p.levels va vb)
        later = half_later h sp (last (history N)) (from_now (now (history N))) (uncovered N) [] since f.role f.whole
            (subst (λ l. Reached h sp (ticket_of (book_of (last_began N) sp)) (last_began N) l (last_since N)) (sym (append-nil (uncovered N))) f.reached.0) (last_built h sp N f)
            (unfold All in subst (IsBuilt h sp) (last_ends (history N)) (all_last (last_since N) (last_began N) (IsBuilt h sp) (last_built h sp N f))) va p half (half_was_on va p held half)

  module _ (kind : Found → Found) (H : Call → (ℕ → ℕ) → ℕ → Type 0) (tracks : Tracks h sp kind H) where
    complete_of : (N : Night) → Telling h sp H N → Complete h sp N
    complete_of = telling_less (Unmaps h sp) H tracks.unmaps

    enough : (N : Night) → Honest h sp untold_kept N → Telling h sp H N → (va : ℕ) → Enough (walker_of (setting_of h sp)) untold_kept kind (history N) va
    unfolding Honest Telling history Enough
    enough (dusk m) k c va = tt
    enough (calls N a) k c va = enough N k.0 c va
    enough (happens N e) k c va = enough N k.0 c va
    enough (begins N) k c va = enough N k.0 c va
    enough (done N T) (k, D, Ds, e) c va = (enough N k c.0 va, λ o i a. page_told h sp N T D Ds e (night_facts N k (complete_of N c.0)) kind H tracks c.1 va o i a)

    night_kind : (N : Night) → Honest h sp untold_kept N → Telling h sp H N → (va : ℕ) (o : Found) → Gets h sp untold_kept N va o
        → Among (last_began N) (last_since N) (λ x. kind (means h sp x va) ≡ kind o)
    night_kind N honest told va o g =
        let s = sure Half (λ p x. x) N honest (inl (complete_of N told)) in
        among_map (last_since N) (last_began N) _ _ (λ x e. sym (ap kind (one_space_meaning h (4096 * sp.root) x va)) ∙ e)
        (as_if_all (walker_of (setting_of h sp)) (laws_of (setting_of h sp)) untold_kept (finishes h sp Half) kind (history N) s.keeps s.tells va (enough N honest told va) g.place o g.held g.gives)

  pub night_answer : (N : Night) → Honest h sp untold_kept N → Exact h sp N → NightAnswer h sp N
  night_answer = night_kind (λ o. o) (Hit h sp) (exactly h sp)

  pub night_page : (N : Night) → Honest h sp untold_kept N → Complete h sp N → NightPage h sp N
  night_page = night_kind but_rights (Unmaps h sp) (but_rights_lem h sp)

  -- WHERE ALL UPPER ENTRIES ARE DROPPED (Intel's, and AMD's without EFER.TCE): all of the above holds,
  pub less_held : (N : Night) (va : ℕ) (o : Found) → Gets h sp upper_dropped N va o → Gets h sp untold_kept N va o
  less_held N va o g = record { place = g.place; held = no_more_held (walker_of (setting_of h sp)) upper_dropped untold_kept less (history N) va g.place g.held; gives = g.gives }
    where
      less : NoMore upper_dropped untold_kept
      less = record { half = λ p x. absurd x; finished = λ p x. x }

  pub less_honest : (N : Night) → Honest h sp upper_dropped N → Honest h sp untold_kept N
  unfolding Honest Allowed
  less_honest (dusk m) k = k
  less_honest (calls N a) k = (less_honest N k.0, k.1, k.2)
  less_honest (happens N (write a v)) k = (less_honest N k.0, k.1)
  less_honest (happens N (mark a v)) k = (less_honest N k.0, k.1)
  less_honest (happens N (store a v)) k = (
    less_honest N k.0,
    elim k.1 [
      | inl x ↦ inl x
      | inr g ↦ inr (record { address = g.address; base = g.base; size = g.size; frame = g.frame; rights = g.rights; gets = less_held N g.address _ g.gets; from = g.from; upto = g.upto })
    ],
  )
  less_honest (begins N) k = (less_honest N k.0, k.1)
  less_honest (done N T) k = (less_honest N k.0, k.1, k.2, k.3)

  -- and this whatever is told.
  module _ (N : Night) (honest : Honest h sp upper_dropped N) where
    abbrev t : Sure (λ p. ⊥) N
    t = sure (λ p. ⊥) (λ p x. absurd x) N honest (inr (λ p x. x))

    pub stale_facts : Facts h sp N
    stale_facts = (sure (λ p. ⊥) (λ p x. absurd x) N honest (inr (λ p x. x))).facts

    pub night_fresh : NightFresh h sp N
    night_fresh va o g = fresh (walker_of (setting_of h sp)) (laws_of (setting_of h sp)) upper_dropped (finishes h sp (λ p. ⊥)) (history N) t.keeps t.tells va g.place o g.held g.gives

    pub stale_stays_out : StaysOut h sp upper_dropped N
    stale_stays_out = given_apart (λ p. ⊥) (λ p x. absurd x) N t
