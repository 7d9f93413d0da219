-- "The plain disk": a machine of its own, from its own section of document 01. Of the store it shares entries, the overlay, the
-- numbers of the causes, the data-block test, the largest save number, the names of the calls, the tests of a cut's marks, and of a
-- list of gets the test of its lengths and its addresses. W-209: "The plain disk also keeps the log's and the waiting addresses".
use Rattle.std.specs.Prelude.{ℕ, ◌+◌, ◌-◌, Bool, true, false, cond, not, ◌&&◌, ◌||◌, List, [], ◌∷◌, ◌++◌, map, eqb, leb, ltb, length, take, replicate}
use Rattle.cells.specs.Upto.{joined}
use Rattle.cells.specs.Entry.{block_bytes, Entry}
use Rattle.card.specs.Disk.{Disk, lay, overlay}
use Rattle.card.specs.Marks.{marks_for, whole_at, kept_at}
use Rattle.journal.specs.Geometry.{Geometry}
use Rattle.journal.specs.Layout.{is_data}
use Rattle.journal.specs.Header.{most_save}
use Rattle.journal.specs.Wanted.{wanted_count, wanted_at}
use Rattle.crash.specs.Laid.{Laid, lay_over}
use Rattle.store.specs.Local.{Local}
use Rattle.store.specs.Causes.{some, wrong_list}
use Rattle.store.specs.GetList.{Listing, listing_of}
use Rattle.store.specs.Save.{Save}
use Rattle.history.specs.Call.{Call, local, direct, save, cut, get_list}

-- "the call cut short and its orders"
pub data Short : Type 0 where
  none : Short
  of_sync : ℕ → Short
  of_apply : ℕ → Short
  of_recover : ℕ → Short
  of_direct : ℕ → Short

-- "State: S (the data blocks), lists G (group) and T (open) of entries, n, mode, power, the number of waiting writes, the call cut
-- short and its orders, and F (1 if the header needs a fallback)." W-201: with S, how many nonempty groups were laid into it. W-209: the
-- log's addresses in slot order, the addresses of direct writes that wait, and the loose ones: those that waited at a cut, until a recovery
pub record Plain : Type 0 where
  pub N : ℕ
  pub S : Laid
  pub G : List Entry
  pub T : List Entry
  pub n : ℕ
  pub mode : ℕ
  pub power : ℕ
  pub waiting : ℕ
  pub short : Short
  pub F : Bool
  pub log : List ℕ
  pub writes : List ℕ
  pub loose : List ℕ

-- ---- one field set, or two that go together, the others as they are

abbrev pub with_s : Laid → Plain → Plain
with_s S d = record { N = d.N; S = S; G = d.G; T = d.T; n = d.n; mode = d.mode; power = d.power; waiting = d.waiting; short = d.short; F = d.F; log = d.log; writes = d.writes; loose = d.loose }

abbrev pub with_lists : List Entry → List Entry → Plain → Plain
with_lists G T d = record { N = d.N; S = d.S; G = G; T = T; n = d.n; mode = d.mode; power = d.power; waiting = d.waiting; short = d.short; F = d.F; log = d.log; writes = d.writes; loose = d.loose }

abbrev pub with_count : ℕ → Plain → Plain
with_count n d = record { N = d.N; S = d.S; G = d.G; T = d.T; n = n; mode = d.mode; power = d.power; waiting = d.waiting; short = d.short; F = d.F; log = d.log; writes = d.writes; loose = d.loose }

abbrev pub in_mode : ℕ → Plain → Plain
in_mode k d = record { N = d.N; S = d.S; G = d.G; T = d.T; n = d.n; mode = k; power = d.power; waiting = d.waiting; short = d.short; F = d.F; log = d.log; writes = d.writes; loose = d.loose }

abbrev pub with_power : ℕ → Plain → Plain
with_power k d = record { N = d.N; S = d.S; G = d.G; T = d.T; n = d.n; mode = d.mode; power = k; waiting = d.waiting; short = d.short; F = d.F; log = d.log; writes = d.writes; loose = d.loose }

abbrev pub with_waiting : ℕ → Plain → Plain
with_waiting k d = record { N = d.N; S = d.S; G = d.G; T = d.T; n = d.n; mode = d.mode; power = d.power; waiting = k; short = d.short; F = d.F; log = d.log; writes = d.writes; loose = d.loose }

abbrev pub with_short : Short → Plain → Plain
with_short short d = record { N = d.N; S = d.S; G = d.G; T = d.T; n = d.n; mode = d.mode; power = d.power; waiting = d.waiting; short = short; F = d.F; log = d.log; writes = d.writes; loose = d.loose }

abbrev pub with_f : Bool → Plain → Plain
with_f F d = record { N = d.N; S = d.S; G = d.G; T = d.T; n = d.n; mode = d.mode; power = d.power; waiting = d.waiting; short = d.short; F = F; log = d.log; writes = d.writes; loose = d.loose }

abbrev pub with_log : List ℕ → Plain → Plain
with_log log d = record { N = d.N; S = d.S; G = d.G; T = d.T; n = d.n; mode = d.mode; power = d.power; waiting = d.waiting; short = d.short; F = d.F; log = log; writes = d.writes; loose = d.loose }

abbrev pub with_writes : List ℕ → Plain → Plain
with_writes writes d = record { N = d.N; S = d.S; G = d.G; T = d.T; n = d.n; mode = d.mode; power = d.power; waiting = d.waiting; short = d.short; F = d.F; log = d.log; writes = writes; loose = d.loose }

abbrev pub with_loose : List ℕ → Plain → Plain
with_loose loose d = record { N = d.N; S = d.S; G = d.G; T = d.T; n = d.n; mode = d.mode; power = d.power; waiting = d.waiting; short = d.short; F = d.F; log = d.log; writes = d.writes; loose = loose }

-- "Format makes S zero, lists empty, n and F 0." Mode open, power 1,000,000; no group was laid
abbrev pub blank : Laid
blank = record { disk = λ a. replicate block_bytes 0; groups = 0 }

abbrev pub blank_plain : ℕ → Plain
blank_plain N = record { N = N; S = blank; G = []; T = []; n = 0; mode = 1; power = 1000000; waiting = 0; short = none; F = false; log = []; writes = []; loose = [] }

unfoldable pub fresh : ℕ → Plain
fresh N = blank_plain N

-- ---- lists

-- an entry of the list has the address
unfoldable pub has : ℕ → List Entry → Bool
has a [] = false
has a (e ∷ es) = eqb e.address a || has a es

-- the address is among these
unfoldable pub among : ℕ → List ℕ → Bool
among a [] = false
among a (x ∷ xs) = eqb x a || among a xs

-- the addresses of a list
unfoldable pub addresses : List Entry → List ℕ
addresses es = map (λ e. e.address) es

-- the entry replaces the one of its address or is added at the end
unfoldable pub insert : Entry → List Entry → List Entry
insert e [] = e ∷ []
insert e (x ∷ xs) = cond (eqb x.address e.address) (e ∷ xs) (x ∷ insert e xs)

-- each entry of the first list, in turn, replaces or joins the second
unfoldable pub merge : List Entry → List Entry → List Entry
merge [] g = g
merge (e ∷ es) g = merge es (insert e g)

-- ---- orders

module _ (geo : Geometry) where
  -- "If n+m > 32, apply runs first"
  abbrev pub applies : ℕ → ℕ → Bool
  applies n m = not (leb (n + m) geo.slots)

-- "n+3 orders"
abbrev pub apply_takes : ℕ → ℕ
apply_takes n = n + 3

module _ (geo : Geometry) where
  -- "m+3 orders": m log blocks, the descriptor (one block at the trap), the header, the flush
  abbrev pub sync_takes : ℕ → ℕ → ℕ
  sync_takes n m = cond (applies geo n m) (apply_takes n + (m + geo.descriptors + 2)) (m + geo.descriptors + 2)

-- W-209: "with 32 waiting it flushes first": w writes wait
module _ (geo : Geometry) where
  abbrev pub direct_takes : ℕ → ℕ
  direct_takes w = cond (eqb w geo.direct) 2 1

-- the waiting writes after k orders of an apply, w having waited before: n home blocks, flush, header, flush
abbrev pub apply_waits : ℕ → ℕ → ℕ → ℕ
apply_waits w n k = cond (leb k n) (w + k) (cond (eqb k (n + 2)) 1 0)

module _ (geo : Geometry) where
  -- after k orders of a sync that is cut short: m log blocks, the descriptor, the header
  abbrev pub sync_waits : ℕ → ℕ → ℕ → ℕ → ℕ
  sync_waits w n m k = cond (applies geo n m) (cond (ltb k (apply_takes n)) (apply_waits w n k) (k - apply_takes n)) (w + k)

-- after k orders of a direct write that is cut short: the flush
abbrev pub direct_waits : ℕ → ℕ → ℕ
direct_waits w k = cond (eqb k 0) w 0

module _ (geo : Geometry) where
  -- a flush of the call cut short happened, so that no earlier write waits: an apply's first, also inside a sync, after n+1 orders, a direct
  -- write's after 1
  unfoldable pub flushes : Short → ℕ → ℕ → Bool
  flushes none n m = false
  flushes (of_recover k) n m = false
  flushes (of_apply k) n m = ltb n k
  flushes (of_sync k) n m = applies geo n m && ltb n k
  flushes (of_direct k) n m = ltb 0 k

-- ---- the choice at a cut, in numbers: n, F, and whether G is laid over S

pub record Verdict : Type 0 where
  pub n : ℕ
  pub F : Bool
  pub laid : Bool

abbrev pub unchanged : ℕ → Bool → Verdict
unchanged n F = record { n = n; F = F; laid = false }

-- "an apply's, also inside a sync: after n+2 orders of it (S, 0) if that write was kept, else (S, n); after n+3 or more (S, 0); F 0"
unfoldable pub apply_verdict : ℕ → ℕ → Bool → Bool → Verdict
apply_verdict k n F kept =
    cond (ltb k (n + 2)) (unchanged n F)
    (cond (eqb k (n + 2)) (unchanged (cond kept 0 n) false) (unchanged 0 false))

-- "a sync's own, m+2 orders after its apply, n being 0 if there was one: (G over S, n+m) with F 0 if that write was kept and the
-- log found is the log written; else (S, n), with F 1 if that write was kept, 0 if not"
unfoldable pub own_verdict : ℕ → ℕ → Bool → Bool → Verdict
own_verdict n m kept found =
    cond (kept && found) (record { n = n + m; F = false; laid = true }) (unchanged n kept)

module _ (geo : Geometry) where
  -- "chooses by the last header write of the call cut short"
  unfoldable pub verdict : Short → ℕ → ℕ → Bool → Bool → Bool → Verdict
  verdict none n m F kept found = unchanged n F
  verdict (of_recover k) n m F kept found = cond (eqb k 0) (unchanged n F) (unchanged n (not kept))
  verdict (of_direct k) n m F kept found = unchanged n F
  verdict (of_apply k) n m F kept found = apply_verdict k n F kept
  verdict (of_sync k) n m F kept found =
      cond (applies geo n m)
      (cond (eqb k (apply_takes n + (m + geo.descriptors + 1))) (own_verdict 0 m kept found) (apply_verdict k n F kept))
      (cond (eqb k (m + geo.descriptors + 1)) (own_verdict n m kept found) (unchanged n F))

-- the log's addresses then: the first n, or if G is laid the first n − m and G's
abbrev pub log_at : Verdict → List Entry → List ℕ → List ℕ
log_at v G log = cond v.laid (take (v.n - length G) log ++ addresses G) (take v.n log)

-- ---- refusals

-- "mode closed" 3, "mode down" 4, else as the rest says
abbrev pub when_open : Plain → ℕ → ℕ
when_open d rest = cond (eqb d.mode 0) 3 (cond (eqb d.mode 2) 4 rest)

-- W-201: 12, "when a nonempty sync meets the largest save number"
abbrev pub last_save : Plain → Bool
last_save d = not (eqb (length d.G) 0) && eqb d.S.groups most_save

module _ (geo : Geometry) where
  -- whether the last header write of the call cut short waits; it is the last waiting write then
  unfoldable pub header_waits : Short → ℕ → ℕ → Bool
  header_waits none n m = false
  header_waits (of_recover k) n m = eqb k 1
  header_waits (of_direct k) n m = false
  header_waits (of_apply k) n m = eqb k (n + 2)
  header_waits (of_sync k) n m =
      cond (applies geo n m)
      (eqb k (n + 2) || eqb k (apply_takes n + (m + geo.descriptors + 1)))
      (eqb k (m + geo.descriptors + 1))

  -- 10: W-204: "for each waiting write, 512 marks", none over 1, and those of a header that waits "all 0 or all 1"
  unfoldable pub plain_fit : List ℕ → Plain → Bool
  plain_fit ms d = marks_for ms d.waiting && (not (header_waits d.short d.n (length d.G)) || whole_at ms (d.waiting - 1))

  unfoldable pub refusal : Call → Plain → ℕ
  refusal (local (Local.power k)) d = 0
  refusal (local (Local.put a b)) d =
      cond (not (eqb (length b) block_bytes)) 1
      (when_open d (cond (not (is_data geo d.N a)) 6 (cond (not (has a d.T) && leb geo.slots (length d.T)) 7 0)))
  refusal (local (Local.get a)) d = when_open d (cond (not (is_data geo d.N a)) 6 0)
  refusal (local (Local.get_list xs bs)) d =
      cond (wrong_list xs bs) 1 (when_open d (cond (some (λ i. not (is_data geo d.N (wanted_at xs i))) (wanted_count xs)) 6 0))
  refusal (local Local.commit) d = when_open d (cond (ltb geo.slots (length (merge d.T d.G))) 7 0)
  refusal (local Local.abandon) d = when_open d 0
  refusal (direct a b) d =
      cond (not (eqb (length b) block_bytes)) 1
      (when_open d (cond (not (is_data geo d.N a)) 6 (cond (has a d.T || has a d.G || among a d.log) 14 0)))
  refusal (save Save.sync) d = when_open d (cond (last_save d) 12 0)
  refusal (save Save.apply) d = when_open d 0
  refusal (save Save.recover) d = cond (eqb d.mode 2) 4 (cond (eqb d.mode 1) 5 0)
  refusal (cut ms) d = cond (not (plain_fit ms d)) 10 0

-- ---- the steps

pub record Done : Type 0 where
  pub answer : ℕ
  pub orders : ℕ
  pub plain : Plain

-- a call that is done with k orders, and one that gives none
abbrev pub done : ℕ → Plain → Done
done k d = record { answer = 0; orders = k; plain = d }

abbrev pub still : Plain → Done
still d = done 0 d

-- k orders carried out
abbrev pub spent : ℕ → Plain → Plain
spent k d = with_power (d.power - k) d

-- no write waits any more
abbrev pub flushed : Plain → Plain
flushed d = with_waiting 0 (with_writes [] d)

module _ (geo : Geometry) where
  -- "Otherwise power is 0, the mode is down and the call was cut short", with the power there was as its orders. The waiting addresses are
  -- emptied by a flush that happened
  abbrev pub cut_short : Short → ℕ → Plain → Done
  cut_short short waits d = record {
    answer = 4;
    orders = d.power;
    plain = in_mode 2 (with_power 0 (with_waiting waits (with_writes (cond (flushes geo short d.n (length d.G)) [] d.writes) (with_short short d))));
  }

  -- "sync puts G over S, empties G and adds m to n, after n = 0 if it applied"; one group more is laid
  abbrev pub synced : Plain → Plain
  synced d =
      let m = length d.G in
      with_s (lay_over d.G d.S)
      (with_lists [] d.T
      (with_count (cond (applies geo d.n m) 0 d.n + m)
      (with_log (cond (applies geo d.n m) [] d.log ++ addresses d.G)
      (flushed (spent (sync_takes geo d.n m) d)))))

  -- W-209: "A sync with an empty group flushes if anything waits, one order; otherwise none."
  unfoldable pub plain_barrier : Plain → Done
  plain_barrier d =
      cond (eqb d.waiting 0) (still d)
      (cond (leb 1 d.power) (done 1 (flushed (spent 1 d)))
      (cut_short (of_sync d.power) d.waiting d))

  unfoldable pub plain_sync : Plain → Done
  plain_sync d =
      let m = length d.G in
      cond (eqb m 0) (plain_barrier d)
      (cond (leb (sync_takes geo d.n m) d.power) (done (sync_takes geo d.n m) (synced d))
      (cut_short (of_sync d.power) (sync_waits geo d.waiting d.n m d.power) d))

-- "apply sets n = 0"
abbrev pub cleared : Plain → Plain
cleared d = with_count 0 (with_log [] (flushed (spent (apply_takes d.n) d)))

module _ (geo : Geometry) where
  unfoldable pub plain_apply : Plain → Done
  plain_apply d =
      cond (eqb d.n 0) (still d)
      (cond (leb (apply_takes d.n) d.power) (done (apply_takes d.n) (cleared d))
      (cut_short geo (of_apply d.power) (apply_waits d.waiting d.n d.power) d))

-- W-209: "a direct write lays its block into S"; no group is laid
abbrev pub drawn : Entry → Laid → Laid
drawn e S = record { disk = lay e S.disk; groups = S.groups }

module _ (geo : Geometry) where
  -- its address waits, alone if it flushed first
  abbrev pub written : ℕ → List ℕ → Plain → Plain
  written a b d =
      let full = eqb d.waiting geo.direct in
      with_s (drawn (record { address = a; block = b }) d.S)
      (with_waiting (cond full 0 d.waiting + 1)
      (with_writes (cond full [] d.writes ++ (a ∷ []))
      (spent (direct_takes geo d.waiting) d)))

  unfoldable pub plain_direct : ℕ → List ℕ → Plain → Done
  plain_direct a b d =
      let k = direct_takes geo d.waiting in
      cond (leb k d.power) (done k (written a b d)) (cut_short geo (of_direct d.power) (direct_waits d.waiting d.power) d)

-- W-209: S "takes what the next recovery after a cut finds" there, at the loose addresses
abbrev pub taking : List ℕ → Disk → Laid → Laid
taking loose found S = record { disk = λ a. cond (among a loose) (found a) (S.disk a); groups = S.groups }

-- "A recover takes 2 orders if F is 1, else none; […] done, and so finished, it makes F 0 and the mode open"
abbrev pub recovered : ℕ → Disk → Plain → Plain
recovered k found d = with_s (taking d.loose found d.S) (with_loose [] (with_f false (in_mode 1 (spent k d))))

module _ (geo : Geometry) where
  -- It is fed the disk found
  unfoldable pub plain_recover : Disk → Plain → Done
  plain_recover found d =
      let k : ℕ = cond d.F 2 0 in
      cond (leb k d.power) (done k (recovered k found d)) (cut_short geo (of_recover d.power) d.power d)

-- "if that write was kept": a header that waits is the last waiting write, and so are its marks
unfoldable pub header_kept : List ℕ → ℕ → Bool
header_kept ms waiting = kept_at ms (waiting - 1)

-- "A cut empties G and T, and chooses" S, n and F, and so the log's addresses; the queue is emptied, the record closed, no call cut short
-- since. W-209: the waiting addresses join the loose ones
abbrev pub closed_with : Laid → ℕ → Bool → List ℕ → Plain → Plain
closed_with S n F log d =
    with_s S (with_lists [] [] (with_count n (with_f F (with_log log (with_loose (d.writes ++ d.loose) (in_mode 0 (flushed (with_short none d))))))))

module _ (geo : Geometry) where
  -- It is fed whether the log found is the log written
  unfoldable pub plain_cut : List ℕ → Bool → Plain → Done
  plain_cut ms found d =
      let v = verdict geo d.short d.n (length d.G) d.F (header_kept ms d.waiting) found in
      still (closed_with (cond v.laid (lay_over d.G d.S) d.S) v.n v.F (log_at v d.G d.log) d)

-- a local call: "put, commit, abandon, get […] are as above"
abbrev pub locally : Local → Plain → Plain
locally (Local.power k) d = with_power k d
locally (Local.put a b) d = with_lists d.G (insert (record { address = a; block = b }) d.T) d
locally (Local.get a) d = d
locally (Local.get_list xs bs) d = d
locally Local.commit d = with_lists (merge d.T d.G) [] d
locally Local.abandon d = with_lists d.G [] d

-- what it is fed: at a cut "whether the log found is the log written"; at a recover what is found
pub record Fed : Type 0 where
  pub same : Bool
  pub found : Disk

module _ (geo : Geometry) where
  abbrev pub saving : Save → Disk → Plain → Done
  saving Save.sync found d = plain_sync geo d
  saving Save.apply found d = plain_apply geo d
  saving Save.recover found d = plain_recover geo found d

  -- a call that is not refused
  abbrev pub served : Call → Fed → Plain → Done
  served (local c) f d = still (locally c d)
  served (direct a b) f d = plain_direct geo a b d
  served (save c) f d = saving c f.found d
  served (cut ms) f d = plain_cut geo ms f.same d

  unfoldable pub plain_step : Call → Fed → Plain → Done
  plain_step c f d =
      cond (eqb (refusal geo c d) 0) (served c f d) (record { answer = refusal geo c d; orders = 0; plain = d })

-- "get reading T, then G, then S"
unfoldable pub plain_get : ℕ → Plain → List ℕ
plain_get a d = overlay d.T (overlay d.G d.S.disk) a

-- W-207: a list of gets: the slots are "n for a list with any address, 0 for none", each block is "what a single get shows", "in the order
-- listed". Refused, no slot is counted "and then nothing is copied"
module _ (geo : Geometry) where
  unfoldable pub plain_listing : List ℕ → List ℕ → Plain → Listing
  plain_listing xs bs d =
      let k = refusal geo (get_list xs bs) d in
      cond (eqb k 0)
      (listing_of 0 (cond (eqb (length xs) 0) 0 d.n) (joined (λ i. plain_get (wanted_at xs i) d) (wanted_count xs)))
      (listing_of k 0 bs)
