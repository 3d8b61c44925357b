-- What the answers say, in a space that is whole: from what the decisions do.
use Prim.Native.Nat.{ℕ, ◌+◌, ◌*◌, ◌%◌, ◌^◌, ◌≤◌}
use Rattle.pool.specs.declared.NotDue.TheVariants as notdue
use mathlib.Core.Bool.{Bool}
use mathlib.Core.Logic.{◌↔◌}
use mathlib.Core.Path.{◌≡◌, refl, sym, ap, ◌∙◌, subst}
use native.Mathlib.Decide.{ℕ_discrete, dec_lt}
use native.Mathlib.Omega.{arith}
use Rattle.std.proofs.Common.{Result, Ok, Err}
use Rattle.pool.specs.declared.NotDue.{NotDue}
use Rattle.word.specs.Memory.{at, set}
use Rattle.word.specs.Writes.{after}
use Rattle.word.proofs.Set.{set_at, set_other}
use Rattle.entry.specs.Kept.{SameButRights}
use Rattle.entry.specs.declared.Rights.{Rights}
use Rattle.walk.specs.Walk.{base_of}
use Rattle.walk.proofs.Ranges.{no_address_only, page_covers}
use Rattle.tables.specs.Roles.{Role}
use Rattle.tables.proofs.Edits.{turns_inside, turns_outside}
use Rattle.tables.proofs.Meaning.{never_outside, never_in_pool}
use Rattle.tables.proofs.Overlap.{aligned_base}
use Rattle.pool.specs.Book.{book_of, ticket_of, ticket_after, due_of}
use Rattle.pool.specs.Booked.{released}
use Rattle.pool.specs.declared.Space.{Space}
use Rattle.pool.specs.declared.Book.{Book}
use Rattle.pool.proofs.Releasing.{due_exactly, release_book}
use Rattle.plan.specs.Map as map
use Rattle.plan.specs.Unmap as unmap
use Rattle.plan.specs.Protect as protect
use Rattle.plan.specs.declared.maps.Asked.{Asked}
use Rattle.plan.specs.declared.maps.Mapping.{Mapping}
use Rattle.plan.specs.declared.unmaps.Removal.{Removal}
use Rattle.plan.specs.declared.protects.Change.{Change}
use Rattle.effect.specs.Whole.{Whole}
use Rattle.effect.specs.UnmapDone.{UnmapDone}
use Rattle.effect.specs.ProtectDone.{ProtectDone}
use Rattle.effect.proofs.Wholes.{book_opens}
use Rattle.effect.proofs.MapDone.{decided_done, mapped_inside, mapped_outside}
use Rattle.effect.proofs.MapRefused.{map_refused, map_succeeds}
use Rattle.effect.proofs.UnmapDone.{unmapped}
use Rattle.effect.proofs.ProtectDone.{protected}
use Rattle.effect.proofs.ToldDone as effect
use Rattle.effect.proofs.Exactly.{unmap_exactly, protect_exactly, told_exactly}
use Rattle.tablepath.specs.Answers.{map_answer, map_writes, map_said, unmap_answer, unmap_writes, unmap_said, gone_of, protect_answer, protect_writes, altered_of, protect_said, told_answer, told_writes, told_said, told_did, due_said, due_did}
use Rattle.tablepath.proofs.SaysAny.{map_refused_by, map_done_by, unmap_refused_by, unmap_done_by, protect_refused_by, protect_done_by, due_unknown, due_spent, due_released, due_no_refusal}
use Rattle.tablepath.specs.Calls.{means}
use Rattle.tablepath.specs.Says.{MapMade, MapSays, UnmapGone, UnmapSays, ProtectSame, ProtectSays, ToldReleased, ToldSays, LookUpSays}

-- Map --------------------------------------------------------------------------------------------------------------------------

module _ {h : ℕ → Bool} {sp : Space} {m : ℕ → ℕ} {role : ℕ → Role} (w : Whole h sp m role) where
  map_made : (q : Asked) (p : Mapping) → map.decide_of h m sp q ≡ map.Go p → MapMade h h sp m (after m (map_writes h m sp q)) role q p.fresh.need
  unfolding map_writes map.did_of
  map_made q p e =
      let d = decided_done w q p e in
      record {
        turned = record {
          inside = λ va i. rw e (mapped_inside w q p d va i.0 i.1);
          beside = λ va n. rw e (mapped_outside w q p d va (λ x y. n (x, y)));
        };
        role' = d.role';
        whole = rw e d.whole;
        tables = d.more;
        fewer = rw e d.fewer;
        taken = d.taken;
        level = p.target;
        fitted = d.fitted;
        missing = d.missing;
        few = d.few;
      }

  -- WHAT MAP ANSWERS
  pub map_says : (q : Asked) → MapSays h h sp m (after m (map_writes h m sp q)) role q (map_answer h m sp q)
  unfolding map_answer map_said
  map_says q = record {
    refused = λ y. (λ e. (map_refused w q y).0 (map_refused_by y (map.decide_of h m sp q) e), λ c. rw ((map_refused w q y).1 c));
    done = (
      λ x. let d = map_done_by x.0 (map.decide_of h m sp q) x.1 in (map_succeeds w q).0 (d.0, d.1, decided_done w q d.0 d.1),
      λ n. let d = (map_succeeds w q).1 n in (d.0.fresh.need, rw d.1),
    );
    made = λ k e. let d = map_done_by k (map.decide_of h m sp q) e in subst (MapMade h h sp m _ role q) d.2 (map_made q d.0 d.1);
  }

-- Told -------------------------------------------------------------------------------------------------------------------------

module _ {h : ℕ → Bool} {sp : Space} {m : ℕ → ℕ} {role : ℕ → Role} (w : Whole h sp m role) where
  -- the book opens: the answer is by what is due
  told_by : (t : ℕ) → told_answer h m sp t ≡ due_said (due_of (book_of m sp) t)
  unfolding told_answer told_said
  told_by t = rw (book_opens w)

  told_released : (t k : ℕ) → due_of (book_of m sp) t ≡ Ok k → ToldReleased h h sp m (after m (told_writes h m sp t)) role t k
  unfolding told_writes told_did due_did
  told_released t k e =
      let d = effect.told w t k e in
      let b = release_book w.booked k d.enough in
      record {
        role' = released m sp k role;
        whole = rw (book_opens w, e) d.whole;
        more = rw (book_opens w, e) (ap (λ (x : Book). x.free) b);
        fewer = rw (book_opens w, e) (omega (arith, ap (λ (x : Book). x.aside) b, d.enough));
        frees = d.frees;
        stays = rw (book_opens w, e) d.stays;
        others = d.others;
      }

  due_same : (t : ℕ) (x : Result ℕ NotDue) → due_of (book_of m sp) t ≡ x → (va : ℕ) → means h sp (after m (due_did sp (book_of m sp) x)) va ≡ means h sp m va
  unfolding due_did after
  due_same t (Err notdue.Unknown) e va = refl
  due_same t (Err notdue.Spent) e va = refl
  due_same t (Ok k) e va = (effect.told w t k e).same va

  told_same : (t va : ℕ) → means h sp (after m (told_writes h m sp t)) va ≡ means h sp m va
  unfolding told_writes told_did
  told_same t va = rw (book_opens w) (due_same t (due_of (book_of m sp) t) refl va)

  -- WHAT TOLD ANSWERS
  pub told_says : (t : ℕ) → ToldSays h h sp m (after m (told_writes h m sp t)) role t (told_answer h m sp t)
  unfolding due_said
  told_says t =
      let x = told_exactly sp.pages (book_of m sp) t w.booked.sound in
      let d = due_of (book_of m sp) t in
      record {
        unknown = (λ e. x.unknown.0 (due_unknown d (sym (told_by t) ∙ e)), λ u. told_by t ∙ ap due_said (x.unknown.1 u));
        spent = (λ e. x.spent.0 (due_spent d (sym (told_by t) ∙ e)), λ u. told_by t ∙ ap due_said (x.spent.1 u));
        done = (
          λ r. x.succeeds.0 (r.0, due_released r.0 d (sym (told_by t) ∙ r.1)),
          λ u. let r = x.succeeds.1 u in (r.0, told_by t ∙ ap due_said r.1),
        );
        never = λ y e. due_no_refusal y d (sym (told_by t) ∙ e);
        same = told_same t;
        released = λ k e. told_released t k (due_released k d (sym (told_by t) ∙ e));
      }

  -- THE TICKET OF THE MOMENT releases all that is set aside
  pub told_all : ticket_of (book_of m sp) ≤ 2 ^ 62 → told_answer h m sp (ticket_of (book_of m sp)) ≡ Ok (book_of m sp).aside
  unfolding due_said
  told_all u =
      let b = book_of m sp in
      let r = (told_exactly sp.pages b (ticket_of b) w.booked.sound).succeeds.1 (omega arith, u) in
      let x = due_exactly sp.pages b (ticket_of b) r.0 w.booked.sound r.1 in
      let all : r.0 ≡ b.aside = elim (dec_lt r.0 b.aside) [ yes v ↦ absurd (omega (arith, x.below (b.tickets + r.0) (omega arith) (omega arith))) | no v ↦ omega (arith, x.enough) ] in
      told_by (ticket_of b) ∙ ap due_said r.1 ∙ ap Ok all

-- Unmap and protect --------------------------------------------------------------------------------------------------------------

module _ {h : ℕ → Bool} {sp : Space} {m : ℕ → ℕ} {role : ℕ → Role} (w : Whole h sp m role) (va : ℕ) where
  module _ (r : Removal) (e : unmap.decide_of h m sp va ≡ Ok r) where
    -- the memory after it
    abbrev unmapped_now : ℕ → ℕ
    unmapped_now = after m (unmap_writes h m sp va)

    d : UnmapDone h sp m role va r
    d = unmapped w va r e

    base_is : base_of r.page.way.level va ≡ va
    base_is = aligned_base r.page.way.level va (subst (λ z. va % z ≡ 0) d.size_is d.aligned)

    whole_now : Whole h sp unmapped_now d.role'
    unfolding unmap_writes unmap.did_of
    whole_now = rw e d.whole

    -- THE TICKET that is answered
    unmap_ticket : ticket_after (book_of m sp) r.empties ≡ ticket_of (book_of unmapped_now sp)
    unfolding unmap_writes unmap.did_of
    unmap_ticket = rw e d.ticket

    unmap_gone : UnmapGone h h sp m unmapped_now role va (gone_of (book_of m sp) r)
    unfolding gone_of unmap_writes unmap.did_of
    unmap_gone = record {
      had = d.had;
      before = d.before;
      turned = record {
        inside = λ vb i. rw e (turns_inside d.changed.turns vb (omega (arith, base_is, i.0)) (omega (arith, base_is, d.size_is, i.1)));
        beside = λ vb n. rw e (turns_outside d.changed.turns vb (λ u v. n (omega (arith, base_is), omega (arith, base_is, d.size_is))));
      };
      role' = d.role';
      whole = whole_now;
      fate = rw e d.fate;
      tables = d.fewer;
      more = rw e (ap (λ (x : Book). x.aside) d.counts);
      ticket = unmap_ticket;
      releases =
          subst (λ x. (told_answer h unmapped_now sp x ≡ Ok (book_of unmapped_now sp).aside) ↔ (x ≤ 2 ^ 62)) (sym unmap_ticket)
          (λ x. ((told_says whole_now (ticket_of (book_of unmapped_now sp))).done.0 (_, x)).1, told_all whole_now);
    }

  -- WHAT UNMAP ANSWERS
  pub unmap_says : UnmapSays h h sp m (after m (unmap_writes h m sp va)) role va (unmap_answer h m sp va)
  unfolding unmap_answer unmap_said
  unmap_says =
      let x = unmap_exactly w va in
      record {
        refused = λ y. (
          λ e. (x.refused y).0 (unmap_refused_by (book_of m sp) y (unmap.decide_of h m sp va) e),
          λ n. rw ((x.refused y).1 n),
        );
        done = (
          λ g. let f = unmap_done_by (book_of m sp) g.0 (unmap.decide_of h m sp va) g.1 in x.succeeds.0 (f.0, f.1),
          λ a. let f = x.succeeds.1 a in (gone_of (book_of m sp) f.0, rw f.1),
        );
        gone = λ g e. let f = unmap_done_by (book_of m sp) g (unmap.decide_of h m sp va) e in subst (UnmapGone h h sp m _ role va) f.2 (unmap_gone f.0 f.1);
      }

  module _ (rights : Rights) (c : Change) (e : protect.decide_of h m sp va rights ≡ Ok c) where
    p : ProtectDone h sp m role va rights c
    p = protected w va rights c e

    starts : base_of p.level va ≡ va
    starts = aligned_base p.level va (subst (λ z. va % z ≡ 0) p.size_is p.aligned)

    -- the one word that is written keeps all but the rights
    word_kept : (x : ℕ) → SameButRights (set m (at c.table c.index) c.word x) (m x)
    word_kept x = elim (ℕ_discrete (at c.table c.index) x) [
      | yes k ↦ rw (set_at m (at c.table c.index) c.word x k) (subst (λ a. SameButRights c.word (m a)) k p.kept)
      | no k ↦ rw (set_other m (at c.table c.index) c.word x k) (record { present = refl; middle = refl })
    ]

    protect_same : ProtectSame h h sp m (after m (protect_writes h m sp va rights)) role va rights (altered_of c)
    unfolding protect_writes protect.did_of protect.writes_of after altered_of
    protect_same = record {
      had = p.had;
      before = p.before;
      turned = record {
        inside = λ vb i. rw e (turns_inside p.changed.turns vb (omega (arith, starts, i.0)) (omega (arith, starts, p.size_is, i.1)));
        beside = λ vb n. rw e (turns_outside p.changed.turns vb (λ u v. n (omega (arith, starts), omega (arith, starts, p.size_is))));
      };
      whole = rw e p.whole;
      kept = λ x. rw e (word_kept x);
      ticket = (p.ticket ∙ rw e (sym (ap ticket_of p.book)), p.ticket);
    }

  -- WHAT PROTECT ANSWERS
  pub protect_says : (rights : Rights) → ProtectSays h h sp m (after m (protect_writes h m sp va rights)) role va rights (protect_answer h m sp va rights)
  unfolding protect_answer protect_said
  protect_says rights =
      let x = protect_exactly w va rights in
      record {
        refused = λ y. (
          λ e. (x.refused y).0 (protect_refused_by y (protect.decide_of h m sp va rights) e),
          λ n. rw ((x.refused y).1 n),
        );
        done = (
          λ g. let f = protect_done_by g.0 (protect.decide_of h m sp va rights) g.1 in x.succeeds.0 (f.0, f.1),
          λ a. let f = x.succeeds.1 a in (altered_of f.0, rw f.1),
        );
        same = λ g e. let f = protect_done_by g (protect.decide_of h m sp va rights) e in subst (ProtectSame h h sp m _ role va rights) f.2 (protect_same rights f.0 f.1);
      }

-- Look-up --------------------------------------------------------------------------------------------------------------------------

-- WHAT LOOK-UP ANSWERS
pub look_up_says : {h : ℕ → Bool} {sp : Space} {m : ℕ → ℕ} {role : ℕ → Role} → Whole h sp m role → (va : ℕ) → LookUpSays h sp va (means h sp m va)
look_up_says {h} {sp} {m} w va = record {
  no_address = no_address_only h m (4096 * sp.root) va;
  never = never_outside w.sound.built va;
  page = λ base size frame rights e.
      let c = page_covers h m (4096 * sp.root) va base size frame rights e in
      ((c.begins, c.reaches), never_in_pool w.sound.built va base size frame rights e);
}
