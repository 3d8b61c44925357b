-- A plan of map, carried out in a space that is whole: the three steps, the page, and the book.
use Prim.Native.Nat.{ℕ, zero, suc, ◌+◌, ◌-◌, ◌%◌, ◌^◌, ◌<◌, ◌≤◌}
use mathlib.Core.Bool.{Bool, true, false, cond}
use mathlib.Core.List.{List, [], ◌∷◌, ◌++◌, append_assoc}
use mathlib.Core.Logic.{◌⊎◌, inl, inr, ◌≢◌}
use mathlib.Core.Path.{◌≡◌, refl, sym, ap, ◌∙◌, subst}
use native.Mathlib.Decide.{ℕ_discrete}
use native.Mathlib.Omega.{arith}
use borrow.Author.Tests.{leb-true, leb-false, lt-leb}
use lib.Dec.{leb}
use Rattle.word.specs.Memory.{at}
use Rattle.word.specs.Writes.{Write, write, after, Every}
use Rattle.word.proofs.Writes.{every_one, every_append, every_map}
use Rattle.entry.specs.Entry.{size_of, says}
use Rattle.entry.specs.Clean.{Clean}
use Rattle.entry.specs.Pat.{PatClear}
use Rattle.entry.specs.Words.{large_flag, page_word}
use Rattle.entry.specs.declared.Rights.{Rights}
use Rattle.entry.specs.declared.Entry.TheVariants.{Nothing, Page}
use Rattle.entry.proofs.Clean.{page_clean}
use Rattle.entry.proofs.Pat.{page_pat}
use Rattle.entry.proofs.Written.{FrameFits, flag_lt, page_word_says}
use Rattle.walk.specs.Walk.{index_of, base_of}
use Rattle.walk.specs.declared.Found.{Found}
use Rattle.walk.specs.declared.Found.TheVariants as found
use Rattle.walk.proofs.Digits.{index_lt}
use Rattle.world.specs.OneChange.{Quiet}
use Rattle.tables.specs.Roles.{Setting, Role, foreign, book, left, Home, entry_at, Exact}
use Rattle.tables.specs.Way.{Comes}
use Rattle.tables.proofs.Way.{comes_left}
use Rattle.tables.specs.Discipline.{walker_of}
use Rattle.tables.specs.Clearing.{events_of}
use Rattle.tables.proofs.Clearing.{Spare, book_spare, spare_untouched}
use Rattle.tables.proofs.Down.{down_start, map_done}
use Rattle.tables.specs.Operation.{Changed}
use Rattle.tables.proofs.Operation.{changed_sound, changed_spare}
use Rattle.tables.proofs.Overlap.{aligned_base}
use Rattle.pool.proofs.Alone.{alone_after}
use Rattle.pool.specs.Layout.{book_pages}
use Rattle.pool.specs.Book.{book_of, page_at}
use Rattle.pool.specs.Booked.{setting_of, Booked, Taken, tables_of}
use Rattle.pool.specs.declared.Space.{Space}
use Rattle.pool.proofs.Pages.{adds_up}
use Rattle.plan.specs.declared.maps.Asked.{Asked}
use Rattle.plan.specs.declared.maps.Mapping.{Mapping}
use Rattle.plan.specs.declared.building.TableReached.{TableReached}
use Rattle.plan.specs.Map.{next_of, grow_of, reached0, reached1, reached2, reached3, build_of, writes_of}
use Rattle.effect.proofs.Unmarking.{page_unmarked, map_unmarking}
use Rattle.effect.specs.MapDone.{Misses, MapDone}
use Rattle.effect.specs.Whole.{Whole}
use Rattle.effect.specs.Numbers.{KeepsNumbers}
use Rattle.effect.proofs.MapBook.{book_writes, book_writes_proper, took_behind, took_behind_keeps, took_behind_counts}
use Rattle.effect.proofs.MapPlan.{Planned, size_small}
use Rattle.effect.proofs.Wholes.{owned}
use Rattle.effect.proofs.MapSteps.{MayBeTable, Grown, grown_start, grown_step}
use Rattle.effect.proofs.Words.{Each, each_append, each_one, each_elsewhere, after_has, Sets, sets_then, sets_behind, grow_each, grow_sets}

-- a step that stays above the target went down one level
pub next_above : (target p : ℕ) (s : TableReached) → target < (next_of target p s).level → (next_of target p s).level + 1 ≡ s.level
unfolding next_of
next_above target p s = go (leb s.level target) refl
  where
    go : (b : Bool) → leb s.level target ≡ b → target < (cond b s (record { level = s.level - 1; table = p })).level
        → (cond b s (record { level = s.level - 1; table = p })).level + 1 ≡ s.level
    go true e u = absurd (omega (arith, leb-true s.level target e))
    go false e u = omega (arith, leb-false s.level target e)

large_small : (l : ℕ) → large_flag l ≤ 128
unfolding large_flag
large_small zero = omega arith
large_small (suc l) = omega arith

pub page_word_small : (l frame : ℕ) (r : Rights) → frame < 2 ^ 52 → page_word l frame r < 2 ^ 64
unfolding page_word
page_word_small l frame r u = omega (arith, large_small l, flag_lt r.writable, flag_lt r.user, flag_lt r.noexec)

settled : {σ : Setting} {m n : ℕ → ℕ} {role role' : ℕ → Role} {va l : ℕ} {o : Found} {xs : List Write} → Changed σ m role va l o xs n role'
    → Changed σ m role va l o xs (after m xs) role'
settled {σ} {m} {n} {role} {role'} {va} {l} {o} {xs} k = subst (λ (x : ℕ → ℕ). Changed σ m role va l o xs x role') k.now k

-- the same operation under equal names, and with the memory after its writes
recast : {σ : Setting} {m n : ℕ → ℕ} {role role' : ℕ → Role} {va va' l l' : ℕ} {o o' : Found} {xs xs' : List Write} → va ≡ va' → l ≡ l' → o ≡ o' → xs ≡ xs'
    → Changed σ m role va l o xs n role' → Changed σ m role va' l' o' xs' (after m xs') role'
recast {σ} {m} {n} {role} {role'} {va} {va'} {l} {l'} {o} {o'} {xs} {xs'} a b c d k =
    settled (subst (λ (x : List Write). Changed σ m role va' l' o' x n role') d
    (subst (λ (x : Found). Changed σ m role va' l' x xs n role') c
    (subst (λ x. Changed σ m role va' x o xs n role') b (subst (λ x. Changed σ m role x l o xs n role') a k))))

-- the page's entry is the last word of a table that is written: up to it, and from it on, no address's meaning changes
pub record PageLast (h : ℕ → Bool) (sp : Space) (m : ℕ → ℕ) (p : Mapping) : Type 0 where
  pub front : List Write
  pub table : ℕ
  pub index : ℕ
  pub split : front ++ (write table index p.word ∷ []) ≡ build_of p
  pub before : Quiet (walker_of (setting_of h sp)) m (events_of front)
  pub behind : Quiet (walker_of (setting_of h sp)) (after m (build_of p)) (events_of (book_writes sp p.fresh.book p.fresh.need))

-- a page is one of a list, or it is none
search : (f : ℕ → ℕ) (q n : ℕ) → ((j : ℕ) → j < n → f j ≢ q) ⊎ ((j : ℕ) × (j < n) × (f j ≡ q))
search f q zero = inl (λ j u. absurd (omega arith))
search f q (suc n) = go (search f q n) (ℕ_discrete (f n) q)
  where
    go : ((j : ℕ) → j < n → f j ≢ q) ⊎ ((j : ℕ) × (j < n) × (f j ≡ q)) → Dec (f n ≡ q) → ((j : ℕ) → j < suc n → f j ≢ q) ⊎ ((j : ℕ) × (j < suc n) × (f j ≡ q))
    go (inr (j, u, e)) d = inr (j, omega arith, e)
    go (inl k) (yes e) = inr (n, omega arith, e)
    go (inl k) (no e) = inl (λ j u. elim (ℕ_discrete j n) [ yes z ↦ λ x. e (ap f (sym z) ∙ x) | no z ↦ k j (omega arith) ])

next_level : (target p : ℕ) (s : TableReached) → target < s.level → (next_of target p s).level ≡ s.level - 1
unfolding next_of
next_level target p s u = rw (lt-leb s.level target u)

module _ {h : ℕ → Bool} {sp : Space} {m : ℕ → ℕ} {role : ℕ → Role} (w : Whole h sp m role) {q : Asked} {p : Mapping} (k : Planned h sp m q p) where
  -- the page at position j is for the step that has gone down j levels
  supply : (j x n : ℕ) → (j < p.level - p.target → x ≡ page_at m sp j) → n + j ≡ p.level → p.target < n
      → (x ≡ page_at m sp (p.level - n)) × (p.level - n < (book_of m sp).free)
  supply j x n f e u =
      let z : p.level - n ≡ j = omega arith in
      rw z (f (omega arith), omega (arith, k.supplied.room))

  comes : Comes (setting_of h sp) m p.base (suc p.level) p.table
  comes = rw k.base_is k.comes

  abbrev Grows : ℕ → List Write → TableReached → Type 0
  Grows = Grown h sp m role p.base p.target p.level

  abbrev grow1 : List Write
  grow1 = grow_of p.base p.target p.fresh.a (reached0 p)

  abbrev grow2 : List Write
  grow2 = grow_of p.base p.target p.fresh.b (reached1 p)

  abbrev grow3 : List Write
  grow3 = grow_of p.base p.target p.fresh.c (reached2 p)

  grown1 : Grows 2 grow1 (reached1 p)
  grown1 =
      grown_step w p.base p.target p.level 2 p.fresh.a [] (reached0 p)
      (grown_start w p.base p.target p.level p.table k.above (omega (arith, k.low)) (down_start w.sound comes) (rw k.base_is k.nothing))
      (supply 0 p.fresh.a p.level k.supplied.first (omega arith))

  down1 : p.target < (reached1 p).level → (reached1 p).level + 1 ≡ p.level
  down1 = next_above p.target p.fresh.a (reached0 p)

  down2 : p.target < (reached2 p).level → (reached2 p).level + 1 ≡ (reached1 p).level
  down2 = next_above p.target p.fresh.b (reached1 p)

  grown2 : Grows 1 (grow1 ++ grow2) (reached2 p)
  grown2 =
      grown_step w p.base p.target p.level 1 p.fresh.b grow1 (reached1 p) grown1
      (λ u. supply 1 p.fresh.b (reached1 p).level k.supplied.second (down1 u) u)

  grown3 : Grows 0 ((grow1 ++ grow2) ++ grow3) (reached3 p)
  grown3 =
      grown_step w p.base p.target p.level 0 p.fresh.c (grow1 ++ grow2) (reached2 p) grown2
      (λ u. let a = down2 u in let b = down1 (omega arith) in supply 2 p.fresh.c (reached2 p).level k.supplied.third (omega arith) u)

  abbrev page : List Write
  page = write (reached3 p).table (index_of (reached3 p).level p.base) p.word ∷ []

  build_is : ((grow1 ++ grow2) ++ grow3) ++ page ≡ build_of p
  unfolding build_of
  build_is = simp append_assoc

  -- the way has come to the target
  there : (reached3 p).level ≡ p.target
  there = omega (arith, grown3.above, grown3.near)

  need_is : p.level - (reached3 p).level ≡ p.fresh.need
  need_is = ap (λ x. p.level - x) there ∙ sym k.supplied.need_is

  taken : Taken (page_at m sp) p.fresh.need role grown3.roles
  taken = subst (λ x. Taken (page_at m sp) x role grown3.roles) need_is grown3.taken

  frame_small : q.frame < 2 ^ 52
  frame_small = omega (arith, k.fitted.frame_fits, (size_small p.target q.size k.fitted.level k.fitted.size_is).0)

  frame_fits : FrameFits p.target q.frame
  frame_fits = let f = k.fitted in record { level = f.level; aligned = ap (λ x. q.frame % x) (sym f.size_is) ∙ f.frame_aligned; below = frame_small }

  word_says : says p.target p.word ≡ Page q.frame q.rights
  word_says = rw k.word_is (page_word_says p.target q.frame q.rights frame_fits)

  word_pat : PatClear p.target p.word
  word_pat = subst (PatClear p.target) (sym k.word_is) (page_pat p.target q.frame q.rights frame_fits)

  -- what the range has then, in the numbers that were asked
  result : found.Page (base_of p.target p.base) (size_of p.target) q.frame q.rights ≡ found.Page q.base q.size q.frame q.rights
  result =
      let f = k.fitted in
      let a = aligned_base p.target q.base (ap (λ x. q.base % x) (sym f.size_is) ∙ f.base_aligned) in
      rw (k.base_is, a, ← f.size_is)

  -- the tables and the page
  built : Changed (setting_of h sp) m role q.base p.target (found.Page q.base q.size q.frame q.rights) (build_of p) (after m (build_of p)) grown3.roles
  built =
      recast k.base_is there (ap (λ x. found.Page (base_of x p.base) (size_of x) q.frame q.rights) there ∙ result) build_is
      (map_done p.word q.frame q.rights grown3.down grown3.nothing (rw there word_says) (rw there (rw k.fitted.size_is at k.apart)) (subst (λ x. PatClear x p.word) (sym there) word_pat))

  places : Every (MayBeTable h sp) (build_of p)
  places =
      subst (Every (MayBeTable h sp)) build_is
      (every_append ((grow1 ++ grow2) ++ grow3) page grown3.places
      (every_one (reached3 p).table (index_of (reached3 p).level p.base) p.word grown3.place (index_lt (reached3 p).level p.base)
      (rw k.word_is (page_word_small p.target q.frame q.rights frame_small))))

  booked : Booked sp (after m (writes_of sp p)) grown3.roles
  unfolding writes_of
  booked =
      took_behind w.booked (build_of p) (every_map (λ x u. u.behind) (build_of p) places) p.fresh.need p.fresh.book
      (omega (arith, k.supplied.need_is, k.supplied.room)) (λ u. k.supplied.book_is (omega (arith, k.supplied.need_is))) taken

  numbers : KeepsNumbers sp m (after m (writes_of sp p))
  unfolding writes_of
  numbers =
      took_behind_keeps w.booked (build_of p) (every_map (λ x u. u.behind) (build_of p) places) p.fresh.need p.fresh.book
      (omega (arith, k.supplied.need_is, k.supplied.room)) (λ u. k.supplied.book_is (omega (arith, k.supplied.need_is)))

  book_writes_spare : Every (Spare grown3.roles) (book_writes sp p.fresh.book p.fresh.need)
  book_writes_spare = every_map (λ x u. book_spare grown3.roles x (booked.in_book x u.0 u.1)) _ (book_writes_proper sp p.fresh.book p.fresh.need)

  changed : Changed (setting_of h sp) m role q.base p.target (found.Page q.base q.size q.frame q.rights) (writes_of sp p) (after m (writes_of sp p)) grown3.roles
  unfolding writes_of
  changed = settled (changed_spare (book_writes sp p.fresh.book p.fresh.need) built book_writes_spare)

  -- THE CHANGE IS THE LAST WRITE OF A TABLE
  pub page_last : PageLast h sp m p
  page_last = record {
    front = (grow1 ++ grow2) ++ grow3;
    table = (reached3 p).table;
    index = index_of (reached3 p).level p.base;
    split = build_is;
    before = grown3.down.quiet;
    behind = (spare_untouched (book_writes sp p.fresh.book p.fresh.need) built.turns.built book_writes_spare).quiet;
  }

  whole : Whole h sp (after m (writes_of sp p)) grown3.roles
  whole = record { stands = w.stands; small = w.small; sound = changed_sound changed; booked = booked; alone = alone_after sp m (writes_of sp p) (map_unmarking sp p (page_unmarked p.target p.word _ _ word_says)) w.alone }

  counts : ((book_of m sp).free ≡ (book_of (after m (writes_of sp p)) sp).free + p.fresh.need) × ((book_of (after m (writes_of sp p)) sp).aside ≡ (book_of m sp).aside)
  unfolding writes_of
  counts =
      took_behind_counts w.booked (build_of p) (every_map (λ x u. u.behind) (build_of p) places) p.fresh.need p.fresh.book
      (omega (arith, k.supplied.need_is, k.supplied.room)) (λ u. k.supplied.book_is (omega (arith, k.supplied.need_is)))

  more : tables_of sp grown3.roles ≡ tables_of sp role + p.fresh.need
  more = omega (arith, adds_up (owned w) w.booked, adds_up (owned whole) booked, counts.0, counts.1)

  proper : Every (Home (setting_of h sp)) (writes_of sp p)
  unfolding writes_of
  proper =
      every_append (build_of p) _ (every_map (λ x u. u.home) (build_of p) places)
      (every_map (λ x u. w.sound.built.home x (book_known x u.0 u.1)) _ (book_writes_proper sp p.fresh.book p.fresh.need))
    where
      book_known : (x : ℕ) → sp.first ≤ x → x < sp.first + book_pages sp.pages → role x ≢ foreign
      book_known x u v e = let b : role x ≡ book = w.booked.in_book x u v in let z : ◌≡◌ {A = ℕ} 0 1 = cc in omega arith

  missing : Misses (setting_of h sp) m q.base p.target p.fresh.need
  missing =
      let e : p.level ≡ p.target + p.fresh.need = omega (arith, k.supplied.need_is, k.above) in
      record {
        table = p.table;
        comes = subst (λ x. Comes (setting_of h sp) m q.base (suc x) p.table) e k.comes;
        nothing = subst (λ x. entry_at m x p.table (index_of x q.base) ≡ Nothing) e k.nothing;
      }

  -- A PLAN THAT IS CARRIED OUT does what was asked
  pub planned_done : MapDone h sp m role q p
  planned_done = record {
    role' = grown3.roles;
    fitted = k.fitted;
    missing = missing;
    few = omega (arith, k.supplied.need_is, k.low);
    taken = taken;
    fewer = counts.0;
    more = more;
    changed = changed;
    booked = booked;
    whole = whole;
    proper = proper;
    numbers = numbers;
  }

  word_clean : Clean p.target p.word
  word_clean = subst (Clean p.target) (sym k.word_is) (page_clean p.target q.frame q.rights frame_fits)

  -- ENTRIES AS WE WRITE THEM stay so
  pub planned_exact : Exact m role → Exact (after m (writes_of sp p)) planned_done.role'
  unfolding planned_done writes_of build_of
  planned_exact exact x l i live u = go (search (page_at m sp) x p.fresh.need)
    where
      each1 : Each x (Clean l) grow1
      each1 = grow_each x l p.base p.target p.fresh.a (reached0 p)

      each2 : Each x (Clean l) grow2
      each2 = grow_each x l p.base p.target p.fresh.b (reached1 p)

      each3 : Each x (Clean l) grow3
      each3 = grow_each x l p.base p.target p.fresh.c (reached2 p)

      each_page : Each x (Clean l) page
      each_page = each_one (reached3 p).table (index_of (reached3 p).level p.base) p.word (index_lt (reached3 p).level p.base) (λ e.
          let level : p.target ≡ l = omega (arith, live, there, comes_left grown3.down.built grown3.down.comes, ap (λ y. left (grown3.roles y)) e) in
          subst (λ y. Clean y p.word) level word_clean)

      each_book : Each x (Clean l) (book_writes sp p.fresh.book p.fresh.need)
      each_book = each_elsewhere (λ y o e. omega (arith, live, ap left (booked.in_book y o.0 o.1), ap (λ z. left (grown3.roles z)) e)) _
          (book_writes_proper sp p.fresh.book p.fresh.need)

      first : 0 < p.fresh.need → p.fresh.a ≡ x → Sets x (Clean l) i (writes_of sp p)
      first v e =
          sets_then x (Clean l) u (grow1 ++ (grow2 ++ (grow3 ++ page))) _
          (sets_then x (Clean l) u grow1 _ (grow_sets x l p.base p.target p.fresh.a (reached0 p) (omega (arith, k.supplied.need_is)) e i u)
          (each_append grow2 _ each2 (each_append grow3 _ each3 each_page))) each_book

      second : 1 < p.fresh.need → p.fresh.b ≡ x → Sets x (Clean l) i (writes_of sp p)
      second v e =
          let one = next_level p.target p.fresh.a (reached0 p) (omega (arith, k.supplied.need_is)) in
          sets_then x (Clean l) u (grow1 ++ (grow2 ++ (grow3 ++ page))) _
          (sets_behind x (Clean l) u grow1 _ (sets_then x (Clean l) u grow2 _ (grow_sets x l p.base p.target p.fresh.b (reached1 p) (omega (arith, one, k.supplied.need_is)) e i u)
          (each_append grow3 _ each3 each_page))) each_book

      third : 2 < p.fresh.need → p.fresh.c ≡ x → Sets x (Clean l) i (writes_of sp p)
      third v e =
          let one = next_level p.target p.fresh.a (reached0 p) (omega (arith, k.supplied.need_is)) in
          let two = next_level p.target p.fresh.b (reached1 p) (omega (arith, one, k.supplied.need_is)) in
          sets_then x (Clean l) u (grow1 ++ (grow2 ++ (grow3 ++ page))) _
          (sets_behind x (Clean l) u grow1 _ (sets_behind x (Clean l) u grow2 _ (sets_then x (Clean l) u grow3 _
          (grow_sets x l p.base p.target p.fresh.c (reached2 p) (omega (arith, one, two, k.supplied.need_is)) e i u) each_page))) each_book

      few : p.fresh.need ≤ 3
      few = omega (arith, k.supplied.need_is, k.low)

      new : (j : ℕ) → j < p.fresh.need → page_at m sp j ≡ x → Sets x (Clean l) i (writes_of sp p)
      new zero v e = first v (k.supplied.first (omega (arith, k.supplied.need_is)) ∙ e)
      new (suc zero) v e = second v (k.supplied.second (omega (arith, k.supplied.need_is)) ∙ e)
      new (suc (suc zero)) v e = third v (k.supplied.third (omega (arith, k.supplied.need_is)) ∙ e)
      new (suc (suc (suc j))) v e = absurd (omega (arith, few))

      go : ((j : ℕ) → j < p.fresh.need → page_at m sp j ≢ x) ⊎ ((j : ℕ) × (j < p.fresh.need) × (page_at m sp j ≡ x)) → Clean l (after m (writes_of sp p) (at x i))
      go (inl n) = after_has (writes_of sp p) m i u (each_append (grow1 ++ (grow2 ++ (grow3 ++ page))) _ (each_append grow1 _ each1 (each_append grow2 _ each2 (each_append grow3 _ each3 each_page))) each_book)
          (exact x l i (ap left (sym (taken.stays x n)) ∙ live) u)
      go (inr (j, v, e)) = new j v e m
