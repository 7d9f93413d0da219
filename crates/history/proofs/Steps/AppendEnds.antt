-- An append: the writes of its one batch, what they leave, and what every cut of them leads to.
use Prim.Native.Nat.{ℕ, ◌+◌, ◌*◌, ◌-◌, ◌≤◌}
use mathlib.Core.Path.{◌≡◌, ap, sym, subst, ◌∙◌}
use mathlib.Core.Bool.{Bool, true, false, cond}
use mathlib.Core.Logic.{◌≢◌}
use mathlib.Core.List.{List, [], ◌∷◌, ◌++◌, append_assoc}
use native.Mathlib.Omega.{arith}
use lib.ListN.{length, take, drop, length-append}
use lib.Seq.{take_all, take_at}
use Rattle.cells.specs.Upto.Laws.{length-up_to}
use Rattle.cells.specs.Entry.{block_bytes, Entry}
use Rattle.fnv.specs.Fnv.{start}
use Rattle.crash.specs.Laid.{Laid, lay_over}
use Rattle.card.specs.Card.{Card, cut, settle, block_at}
use Rattle.card.proofs.All.{All, all_append}
use Rattle.card.proofs.Runs.{settle-append}
use Rattle.card.specs.Marks.{whole_block, marks_fit, kept_at, all_kept}
use Rattle.card.proofs.MarkLaws.{HeaderLast}
use Rattle.journal.specs.Geometry.{Geometry}
use Rattle.journal.specs.Layout.{header_at}
use Rattle.journal.specs.Header.{encode, header}
use Rattle.journal.specs.Log.{entries, sum_of}
use Rattle.journal.proofs.Logs.{sum_of-append}
use Rattle.journal.proofs.OrderLists.{append_writes, length-append_writes}
use Rattle.crash.proofs.Batches.{Left}
use Rattle.crash.proofs.CallCuts as CallCuts
use Rattle.crash.proofs.CallCuts.{append_cuts, append_cuts_lost, append_cuts_new, append_cuts_old, append_cuts_kept, append_cuts_whole}
use Rattle.crash.proofs.Cards.{Every, WholeCard}
use Rattle.crash.proofs.Frames.{Besides, off_low}
use Rattle.crash.proofs.Waiting.{settled_log, settled_writes}
use Rattle.crash.proofs.Leads.{Leads, Appending, found_in}
use Rattle.crash.proofs.Logs.{slot_e, log_d, entries_disk}
use Rattle.crash.proofs.Appends.{writes_whole, writes_below, length_front, header_none, header-last}
use Rattle.history.specs.Plain.{addresses, own_verdict, log_at}
use Rattle.history.specs.Ledger.{same_log}
use Rattle.history.proofs.Relation.PlainLaws.{own-lost, own_new, own_other}
use Rattle.history.proofs.Relation.Lists.{addresses-append}
use Rattle.crash.proofs.Plans.{Fits}

module _ (geo : Geometry) where
  -- the group G is appended to n entries with the sum h on s, where q waits; v is their list, S the disk
  abbrev pub Appends : ℕ → List ℕ → List Entry → ℕ → ℕ → List Entry → List Entry → Laid → Type 0
  Appends N s q n h G v S = Appending geo (Besides q) (Besides q) N s q n h G v S

  module _ {N : ℕ} {s : List ℕ} {q : List Entry} {n h : ℕ} {G v : List Entry} {S : Laid} (x : Appends N s q n h G v S) where
    abbrev W : List Entry
    W = append_writes geo N s n h (S.groups + 1) G

    pub writes_fit : length q ≤ geo.direct → Fits geo N (length q) W
    writes_fit few = record {
      few = let e : length W ≡ length G + geo.descriptors + 1 = length-append_writes geo N s n h (S.groups + 1) G in omega (arith, x.room, geo.queued);
      whole = writes_whole geo N s n h (S.groups + 1) G x.blocks;
      low = writes_below geo N s n h (S.groups + 1) G N x.room (omega (arith, x.behind.big));
    }

    -- what waits before keeps off the header
    high : All (λ e. whole_block ≢ e.address) q
    high = off_low geo q x.behind.off whole_block (omega arith)

    -- a header waits behind all its orders but the flush, and before that none does
    pub top_none : (j : ℕ) → j ≤ length G + geo.descriptors → HeaderLast false (q ++ take j W)
    top_none j l = all_append (λ e. whole_block ≢ e.address) q (take j W) high (header_none geo N s n h (S.groups + 1) G x.room j (rw (length_front geo N s n h (S.groups + 1) G) l))

    pub top-last : (j : ℕ) → j ≡ length G + geo.descriptors + 1 → HeaderLast true (q ++ take j W)
    top-last j e =
        let size : length W ≡ length G + geo.descriptors + 1 = length-append_writes geo N s n h (S.groups + 1) G in
        let last = header-last geo N s n h (S.groups + 1) G x.room in
        rw (take_all j W (omega arith))
        (q ++ last.0, last.1, ap (λ (l : List Entry). q ++ l) last.2 ∙ sym (append_assoc q last.0 (last.1 ∷ [])), all_append (λ e. whole_block ≢ e.address) q last.0 high last.3, last.4)

    -- ---- cut short after j of its orders

    pub short_before : (c r : Card) (j : ℕ) → Left c r s (q ++ take j W) 0 → j ≤ length G + geo.descriptors → (ms : List ℕ) → marks_fit ms (q ++ take j W) ≡ true → Leads geo (Besides q) N (cut ms r).settled v S n false
    short_before c r j f l ms m = append_cuts geo x c r j f ms m l

    pub short-top : (c r : Card) (j : ℕ) → Left c r s (q ++ take j W) 0 → j ≡ length G + geo.descriptors + 1 → (ms : List ℕ) → marks_fit ms (q ++ take j W) ≡ true
        → (t u : Bool) → kept_at ms (length q + (length G + geo.descriptors)) ≡ t → same_log (found_in geo (cut ms r).settled) (cond t (log_d geo (block_at s) n ++ G) v) ≡ u
        → Leads geo (Besides q) N (cut ms r).settled (cond t (log_d geo (block_at s) n ++ G) v) (cond (own_verdict n (length G) t u).laid (lay_over G S) S) (own_verdict n (length G) t u).n (own_verdict n (length G) t u).F
    short-top c r j f e ms m false u p z =
        rw (own-lost n (length G) u)
        (append_cuts_lost geo x c r j f ms m e p)
    short-top c r j f e ms m true true p z =
        rw (own_new n (length G))
        (append_cuts_new geo x c r j f ms m e p z)
    short-top c r j f e ms m true false p z =
        rw (own_other n (length G))
        (append_cuts_old geo x c r j f ms m e p z)

    -- with every write of its own kept the log found is the log written
    pub whole_found : (c r : Card) (j : ℕ) → Left c r s (q ++ take j W) 0 → j ≡ length G + geo.descriptors + 1 → (ms : List ℕ) → marks_fit ms (q ++ take j W) ≡ true → all_kept (drop (block_bytes * length q) ms) ≡ true
        → (kept_at ms (length q + (length G + geo.descriptors)) ≡ true) × (same_log (found_in geo (cut ms r).settled) (log_d geo (block_at s) n ++ G) ≡ true)
    whole_found c r j f e ms m all = (append_cuts_kept geo x c r j f ms m e all, append_cuts_whole geo x c r j f ms m e all)

    size_log : length (log_d geo (block_at s) n) ≡ n
    size_log = length-up_to (slot_e geo (block_at s)) n

    size_list : length (log_d geo (block_at s) n ++ G) ≡ n + length G
    size_list = length-append (log_d geo (block_at s) n) G ∙ ap (λ (k : ℕ). k + length G) size_log

    -- the log's addresses that the plain disk chooses are those of the list that it is found in
    pub top_lists : (l : List ℕ) → take n l ≡ addresses (log_d geo (block_at s) n) → take n l ≡ addresses (take n v) → (t u : Bool)
        → log_at (own_verdict n (length G) t u) G l ≡ addresses (take (own_verdict n (length G) t u).n (cond t (log_d geo (block_at s) n ++ G) v))
    top_lists l a b false u = rw (own-lost n (length G) u) b
    top_lists l a b true true =
        rw (own_new n (length G))
        (ap (λ (k : ℕ). take k l ++ addresses G) (let e : n + length G - length G ≡ n = omega arith in e)
        ∙ ap (λ (k : List ℕ). k ++ addresses G) a
        ∙ sym (addresses-append (log_d geo (block_at s) n) G)
        ∙ ap addresses (sym (take_all (n + length G) (log_d geo (block_at s) n ++ G) (omega (arith, size_list)))))
    top_lists l a b true false = rw (own_other n (length G)) (a ∙ ap addresses (sym (take_at (log_d geo (block_at s) n) G n size_log)))

  -- ---- done: as if what waits were settled before

  module _ {N : ℕ} {s : List ℕ} {q : List Entry} {n h : ℕ} {G v : List Entry} {S : Laid} (x : Appends N s q n h G v S) (y : Appends N (settle q s) [] n h G v S) where
    abbrev settled_w : List Entry
    settled_w = append_writes geo N (settle q s) n h (S.groups + 1) G

    abbrev own_w : List Entry
    own_w = append_writes geo N s n h (S.groups + 1) G

    few : n ≤ geo.slots
    few = omega (arith, x.room)

    settled_is : settle settled_w (settle q s) ≡ settle (q ++ own_w) s
    settled_is = ap (λ (l : List Entry). settle l (settle q s)) (settled_writes geo q x.behind.off s N n h (S.groups + 1) G) ∙ sym (settle-append q own_w s)

    log_is : log_d geo (block_at (settle q s)) n ≡ log_d geo (block_at s) n
    log_is = settled_log geo q x.behind.off s n few

    pub done_card : WholeCard geo Every N (block_at (settle (q ++ own_w) s)) (log_d geo (block_at s) n ++ G) (lay_over G S) (n + length G)
    done_card =
        subst (λ (t : List ℕ). WholeCard geo Every N (block_at t) (log_d geo (block_at s) n ++ G) (lay_over G S) (n + length G)) settled_is
        (subst (λ (l : List Entry). WholeCard geo Every N (block_at (settle settled_w (settle q s))) (l ++ G) (lay_over G S) (n + length G)) log_is (CallCuts.done_card geo y))

    pub done-sum : sum_of h G ≡ sum_of start (log_d geo (block_at (settle (q ++ own_w) s)) (n + length G))
    done-sum = ap (λ (k : ℕ). sum_of k G) x.sum ∙ sym (sum_of-append start (log_d geo (block_at s) n) G) ∙ ap (sum_of start) done_card.same

    -- block 0 then
    done-head : block_at (settle (q ++ own_w) s) header_at ≡ encode (header N n h (n + length G) (sum_of h G) (S.groups + 1))
    done-head = ap (λ (t : List ℕ). block_at t header_at) (sym settled_is) ∙ (CallCuts.done-append geo y).head

    -- by the list L before it: p and n are the lengths, the sums those of L and of L and G
    pub done_logged : (L : List Entry) → L ≡ log_d geo (block_at s) n
        → (block_at (settle (q ++ own_w) s) header_at ≡ encode (header N (length L) (sum_of start L) (length (L ++ G)) (sum_of start (L ++ G)) (S.groups + 1))) × (entries geo (settle (q ++ own_w) s) (length (L ++ G)) ≡ L ++ G)
    done_logged L e =
        rw e (
          done-head
              ∙ (λ i. encode (header N (sym (size_log x) i) (x.sum i) (sym (size_list x) i) ((ap (λ (k : ℕ). sum_of k G) x.sum ∙ sym (sum_of-append start (log_d geo (block_at s) n) G)) i) (S.groups + 1))),
          ap (entries geo (settle (q ++ own_w) s)) (size_list x) ∙ entries_disk geo (settle (q ++ own_w) s) (n + length G) ∙ sym done_card.same,
        )
