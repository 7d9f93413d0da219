-- What is promised of every list of calls, from what a format answering 0 left. Each statement is one type; its proof is the theorem
-- of the same name in proofs/Theorems.antt.
use Rattle.std.specs.Prelude.{ℕ, ◌+◌, ◌*◌, ◌≤◌, ◌<◌, ◌≡◌, ◌≢◌, ◌⊎◌, Bool, true, false, cond, not, ◌&&◌, ◌||◌, List, [], ◌∷◌, ◌++◌, eqb, length, get_or, take, drop, None}
use Rattle.cells.specs.Entry.{block_bytes, Entry, entry_at}
use Rattle.fnv.specs.Fnv.{start}
use Rattle.card.specs.Disk.{Disk}
use Rattle.crash.specs.Laid.{Laid, lay_over}
use Rattle.card.specs.Card.{queue, blocks_in, block_at}
use Rattle.card.specs.Marks.{kept_at, all_kept}
use Rattle.journal.specs.Geometry.{Geometry}
use Rattle.journal.specs.Layout.{header_at, is_data}
use Rattle.journal.specs.declared.choice.Choice.TheVariants.{Fallback}
use Rattle.journal.specs.Lookup.{last_slot}
use Rattle.journal.specs.Header.{encode, header}
use Rattle.journal.specs.Log.{header_of, entries, sum_of}
use Rattle.journal.specs.Choice.{choose}
use Rattle.store.specs.Save as Save
use Rattle.store.specs.State.{State, closed, open_mode, card_in}
use Rattle.store.specs.Causes.{wrong_sizes, wrong_block, wrong_record}
use Rattle.store.specs.Format.{format_call}
use Rattle.store.specs.Get.{block_of}
use Rattle.store.specs.GetList.{listing}
use Rattle.store.specs.Saves.{group_of}
use Rattle.history.specs.Call.{Call, request_of, local, direct, save, cut, get, sync, recover}
use Rattle.history.specs.Plain.{among, addresses, drawn, plain_step, plain_get, plain_listing}
use Rattle.history.specs.Dispatch.{dispatch}
use Rattle.history.specs.Ledger.{standing, inner, waiting_met, log_found, same_log}
use Rattle.history.specs.History.{World, begun, next, after, store_next, found_written, fed, accepted_cut}

-- ---- Safety, exceptions included

module _ (geo : Geometry) where
  -- every state passes checks 1 and 2; no call is refused 1 or 2 but for its own arguments; "recover is never refused 8 or 9 there"
  pub record Sound (st : State) : Type 0 where
    pub sizes : wrong_sizes geo st ≡ false
    pub counts : wrong_record geo st ≡ false
    pub own : (c : Call) → (dispatch geo c st).answer ≡ 1 → wrong_block geo (request_of c) ≡ true
    pub never_two : (c : Call) → (dispatch geo c st).answer ≢ 2
    pub never_eight : (dispatch geo recover st).answer ≢ 8
    pub never_nine : (dispatch geo recover st).answer ≢ 9
    -- W-209: when open, each waiting write goes to a data block that is not in the log
    pub apart : st.rec.mode ≡ open_mode → (i : ℕ) → i < st.rec.waiting
        → (is_data geo st.rec.blocks (entry_at st.waiting i).address ≡ true) × (last_slot st.settled (entry_at st.waiting i).address st.rec.logged ≡ None)

  abbrev pub Safety : Type 0
  Safety = (st : State) → (format_call geo st).answer ≡ 0 → (cs : List Call) → Sound (after geo cs (begun geo st)).store

  -- W-201: a fallback never meets save number 0, on any card whatever: what it takes as the number, and one, is the header's
  abbrev pub FallbackNumbered : Type 0
  FallbackNumbered = (N : ℕ) (s : List ℕ) (n sum c : ℕ) → choose geo N s ≡ Fallback n sum c → (header_of s).save ≡ c + 1

  -- ---- Refinement (demand 2)

  -- "At each call of a list the store gives the plain disk's answer, orders handed back […], block from a get and, when open, n". W-201:
  -- when open, the record's save number is the number of nonempty groups laid into S; it is "0 after a cut", until a recover is done
  pub record Agrees (c : Call) (w : World) : Type 0 where
    pub answer : (dispatch geo c w.store).answer ≡ (plain_step geo c (fed geo c w) w.plain).answer
    pub orders : (dispatch geo c w.store).orders ≡ (plain_step geo c (fed geo c w) w.plain).orders
    pub block : (a : ℕ) → c ≡ get a → (dispatch geo c w.store).answer ≡ 0 → block_of geo a w.store ≡ plain_get a w.plain
    pub mode : (store_next geo c w).rec.mode ≡ (plain_step geo c (fed geo c w) w.plain).plain.mode
    pub power : (store_next geo c w).rec.power ≡ (plain_step geo c (fed geo c w) w.plain).plain.power
    pub waiting : (store_next geo c w).rec.waiting ≡ (plain_step geo c (fed geo c w) w.plain).plain.waiting
    pub n : (store_next geo c w).rec.mode ≡ open_mode → (store_next geo c w).rec.logged ≡ (plain_step geo c (fed geo c w) w.plain).plain.n
    pub save : (store_next geo c w).rec.mode ≡ open_mode → (store_next geo c w).rec.save ≡ (plain_step geo c (fed geo c w) w.plain).plain.S.groups
    -- W-209: when open, it "keeps the log's and the waiting addresses"
    pub log : (store_next geo c w).rec.mode ≡ open_mode → addresses (entries geo (store_next geo c w).settled (store_next geo c w).rec.logged) ≡ (plain_step geo c (fed geo c w) w.plain).plain.log
    pub writes : (store_next geo c w).rec.mode ≡ open_mode → addresses (queue (card_in (store_next geo c w))) ≡ (plain_step geo c (fed geo c w) w.plain).plain.writes
    pub no_save : (store_next geo c w).rec.mode ≡ closed → (store_next geo c w).rec.save ≡ 0

  -- W-207: and a list of gets that is made there, whatever it lists, the plain disk's number, slots counted and blocks
  abbrev pub ListAgrees : World → Type 0
  ListAgrees w = (xs bs : List ℕ) → listing geo xs bs w.store ≡ plain_listing geo xs bs w.plain

  -- "the exception of demand 3 apart": at every call with no exception at a cut before it
  abbrev pub Refinement : Type 0
  Refinement = (st : State) → (format_call geo st).answer ≡ 0 → (cs : List Call) (c : Call) → (after geo cs (begun geo st)).excepted ≡ false → Agrees c (after geo cs (begun geo st)) × ListAgrees (after geo cs (begun geo st))

  -- ---- Log read back (demand 2)

  -- no call of the list is an accepted cut
  unfoldable pub no_cut : List Call → World → Bool
  no_cut [] w = true
  no_cut (c ∷ cs) w = not (accepted_cut geo c w) && no_cut cs (next geo c w)

  -- the list taken by a recover that left r, where the last accepted cut left w
  abbrev pub Taken : World → State → Type 0
  Taken w r =
      entries geo r.settled r.rec.logged
      ≡ cond (same_log (log_found geo w.store) w.ledger.written) w.ledger.written (take (header_of w.store.settled).previous w.ledger.written)

  -- a finished recover takes the log written by the header that the last accepted cut left, if the log found there was that log, else
  -- its first p entries, p by that header
  abbrev pub ReadBack : Type 0
  ReadBack =
      (st : State) → (format_call geo st).answer ≡ 0 → (cs : List Call) (ms : List ℕ) (ds : List Call)
      → accepted_cut geo (cut ms) (after geo cs (begun geo st)) ≡ true
      → no_cut ds (next geo (cut ms) (after geo cs (begun geo st))) ≡ true
      → (after geo ds (next geo (cut ms) (after geo cs (begun geo st)))).excepted ≡ false
      → (dispatch geo recover (after geo ds (next geo (cut ms) (after geo cs (begun geo st)))).store).answer ≡ 0
      → Taken (next geo (cut ms) (after geo cs (begun geo st))) (dispatch geo recover (after geo ds (next geo (cut ms) (after geo cs (begun geo st)))).store).state

-- a check on the log written: at every accepted cut, exceptions included, it has the header's n entries and the header's sum of n
pub record Summed (w : World) : Type 0 where
  pub count : (header_of w.store.settled).count ≡ length w.ledger.written
  pub sum : (header_of w.store.settled).sum ≡ sum_of start w.ledger.written

module _ (geo : Geometry) where
  abbrev pub WrittenSummed : Type 0
  WrittenSummed =
      (st : State) → (format_call geo st).answer ≡ 0 → (cs : List Call) (ms : List ℕ)
      → accepted_cut geo (cut ms) (after geo cs (begun geo st)) ≡ true
      → Summed (next geo (cut ms) (after geo cs (begun geo st)))

  -- what a finished sync of a nonempty group leaves on the card is the checksummed log: block 0 is the encoding of p and its sum, n and its
  -- sum, and one more than the record's save number, zeros included, and the entries are the log before it (empty after an inner apply),
  -- then the group
  pub record Logged (s t : State) : Type 0 where
    pub head : block_at t.settled header_at
        ≡ encode (header s.rec.blocks (length (standing geo s)) (sum_of start (standing geo s)) (length (standing geo s ++ group_of geo s)) (sum_of start (standing geo s ++ group_of geo s)) (s.rec.save + 1))
    pub list : entries geo t.settled (length (standing geo s ++ group_of geo s)) ≡ standing geo s ++ group_of geo s

  abbrev pub Written : Type 0
  Written =
      (st : State) → (format_call geo st).answer ≡ 0 → (cs : List Call)
      → (after geo cs (begun geo st)).store.rec.grouped ≢ 0
      → (dispatch geo sync (after geo cs (begun geo st)).store).answer ≡ 0
      → Logged (after geo cs (begun geo st)).store (dispatch geo sync (after geo cs (begun geo st)).store).state

  -- ---- Crash atomicity (demand 3)

  -- a finished sync or recovery
  unfoldable pub finished : Call → World → Bool
  finished (local c) w = false
  finished (direct a b) w = false
  finished (save Save.sync) w = eqb (dispatch geo sync w.store).answer 0
  finished (save Save.apply) w = false
  finished (save Save.recover) w = eqb (dispatch geo recover w.store).answer 0
  finished (cut ms) w = false

  -- the list is empty or ends in one
  abbrev pub EndsFinished : List Call → World → Type 0
  EndsFinished a w = (a ≡ []) ⊎ ((b : List Call) × (c : Call) × (a ≡ b ++ (c ∷ [])) × (finished c (after geo b w) ≡ true))

  -- the list holds none
  unfoldable pub none_finished : List Call → World → Bool
  none_finished [] w = true
  none_finished (c ∷ cs) w = not (finished c w) && none_finished cs (next geo c w)

  -- a sync that ran out of power itself
  unfoldable pub short_sync : Call → World → Bool
  short_sync (local c) w = false
  short_sync (direct a b) w = false
  short_sync (save Save.sync) w = eqb w.store.rec.mode open_mode && eqb (dispatch geo sync w.store).answer 4
  short_sync (save Save.apply) w = false
  short_sync (save Save.recover) w = false
  short_sync (cut ms) w = false

  unfoldable pub count_short : List Call → World → ℕ
  count_short [] w = 0
  count_short (c ∷ cs) w = cond (short_sync c w) 1 0 + count_short cs (next geo c w)

-- what became of a sync that was cut short: none was; or decided at the next accepted cut, with its group: new or not, and whether it
-- had made all its writes and all were kept
pub data Fate : Type 0 where
  quiet : Fate
  decided : List Entry → Bool → Bool → Fate

-- along the list: known; or still undecided, with the group of the sync, the place in the queue of the first of its own writes and whether
-- its own header was written
pub data Progress : Type 0 where
  known : Fate → Progress
  undecided : List Entry → ℕ → Bool → Progress

module _ (geo : Geometry) where
  -- the sync's own header was written, and nothing after it
  abbrev pub headed : World → Bool
  headed w = eqb (dispatch geo sync w.store).orders (inner geo w.store + (w.store.rec.grouped + geo.descriptors + 1))

  -- at an accepted cut: its header, behind log blocks and descriptor, kept, and the log found is the log written. W-209: its own writes are
  -- those from the place `from` on
  abbrev pub at_cut : Call → World → List Entry → ℕ → Bool → Progress
  at_cut (local c) w G from made = undecided G from made
  at_cut (direct a b) w G from made = undecided G from made
  at_cut (save c) w G from made = undecided G from made
  at_cut (cut ms) w G from made =
      cond (accepted_cut geo (cut ms) w)
      (known (decided G (made && kept_at ms (from + (length G + geo.descriptors)) && found_written geo (cut ms) w) (made && all_kept (drop (block_bytes * from) ms))))
      (undecided G from made)

  unfoldable pub observe : Call → World → Progress → Progress
  observe c w (known quiet) = cond (short_sync geo c w) (undecided (group_of geo w.store) (waiting_met geo w.store) (headed w)) (known quiet)
  observe c w (known (decided G laid all)) = known (decided G laid all)
  observe c w (undecided G from made) = at_cut c w G from made

  unfoldable pub fate : List Call → World → Progress → Progress
  fate [] w f = f
  fate (c ∷ cs) w f = fate cs (next geo c w) (observe c w f)

-- ---- the groups laid, counted along a list

-- a sync cut short that is not decided yet; one that is, is watched no longer
abbrev pub still_undecided : Progress → Progress
still_undecided (known f) = known quiet
still_undecided (undecided G from made) = undecided G from made

-- decided, and new
abbrev pub made_new : Progress → Bool
made_new (known quiet) = false
made_new (known (decided G laid all)) = laid
made_new (undecided G from made) = false

module _ (geo : Geometry) where
  -- a finished sync of a nonempty group
  unfoldable pub saved : Call → World → Bool
  saved (local c) w = false
  saved (direct a b) w = false
  saved (save Save.sync) w = finished geo sync w && not (eqb w.store.rec.grouped 0)
  saved (save Save.apply) w = false
  saved (save Save.recover) w = false
  saved (cut ms) w = false

  -- every finished sync of a nonempty group, and every sync cut short that its next accepted cut made new: by the calls and what the store
  -- made of them, as `fate` goes, and not by any number on the card or in the record
  unfoldable pub groups_laid : List Call → World → Progress → ℕ
  groups_laid [] w f = 0
  groups_laid (c ∷ cs) w f =
      let g = observe geo c w (still_undecided f) in
      cond (saved c w || made_new g) 1 0 + groups_laid cs (next geo c w) g

-- old, or new: old with the group over it, and one group more
abbrev pub outcome : Fate → Laid → Laid
outcome quiet old = old
outcome (decided G laid all) old = cond laid (lay_over G old) old

-- "a sync that had made all its writes and whose next cut kept every one" is new
abbrev pub WholeIsNew : Fate → Type 0
WholeIsNew quiet = Unit {0}
WholeIsNew (decided G laid all) = all ≡ true → laid ≡ true

-- ---- W-209: direct writes along a list

-- of the direct writes to a block that wait: what S had there before the first of them, and their blocks, oldest first
pub record Photo : Type 0 where
  pub before : List ℕ
  pub blocks : List (List ℕ)

abbrev pub no_photo : Photo
no_photo = record { before = []; blocks = [] }

-- one more, over a block s of S
abbrev pub photographed : List ℕ → List ℕ → Photo → Photo
photographed b s p = record { before = cond (eqb (length p.blocks) 0) s p.before; blocks = p.blocks ++ (b ∷ []) }

module _ (geo : Geometry) where
  -- a direct write that is done
  unfoldable pub direct_done : Call → World → Bool
  direct_done (local c) w = false
  direct_done (direct a b) w = eqb (dispatch geo (direct a b) w.store).answer 0
  direct_done (save c) w = false
  direct_done (cut ms) w = false

  -- the entry of a direct write, what it has, and what every other call has
  abbrev pub on_direct : {A : Type 0} → Call → (Entry → A) → A → A
  on_direct (local c) f x = x
  on_direct (direct a b) f x = f (record { address = a; block = b })
  on_direct (save c) f x = x
  on_direct (cut ms) f x = x

  -- those of a list that are done, laid over in turn
  abbrev pub drawn_by : Call → World → Laid → Laid
  drawn_by c w S = cond (direct_done c w) (on_direct c (λ e. drawn e S) S) S

  unfoldable pub drawn_over : List Call → World → Laid → Laid
  drawn_over [] w S = S
  drawn_over (c ∷ cs) w S = drawn_over cs (next geo c w) (drawn_by c w S)

  -- none of them is to the block x
  unfoldable pub never_direct : ℕ → List Call → World → Bool
  never_direct x [] w = true
  never_direct x (c ∷ cs) w = not (direct_done c w && on_direct c (λ e. eqb e.address x) false) && never_direct x cs (next geo c w)

  -- along a list, those to the block x that wait: "with 32 waiting it flushes first", so that no earlier one waits; and wherever the address
  -- does not wait, none does
  abbrev pub photo_by : ℕ → Call → World → Photo → Photo
  photo_by x c w p =
      let q = cond (direct_done c w && eqb w.store.rec.waiting geo.direct) no_photo p in
      cond (among x (next geo c w).plain.writes)
      (cond (direct_done c w) (on_direct c (λ e. cond (eqb e.address x) (photographed e.block (w.plain.S.disk x) q) q) q) q)
      no_photo

  unfoldable pub photo : ℕ → List Call → World → Photo → Photo
  photo x [] w p = p
  photo x (c ∷ cs) w p = photo x cs (next geo c w) (photo_by x c w p)

-- the blocks of the writes q to the block x, in turn
unfoldable pub blocks_to : ℕ → List Entry → List (List ℕ)
blocks_to x [] = []
blocks_to x (e ∷ q) = cond (eqb e.address x) (e.block ∷ blocks_to x q) (blocks_to x q)

-- byte j is as it was before, or as one of the writes has it
abbrev pub OneOf : ℕ → ℕ → Photo → Type 0
OneOf j y p = (y ≡ get_or p.before j 0) ⊎ ((i : ℕ) × (i < length p.blocks) × (y ≡ get_or (get_or p.blocks i []) j 0))

module _ (geo : Geometry) where
  -- a get of the block is answered with these bytes
  abbrev pub Shows : State → ℕ → List ℕ → Type 0
  Shows r x b = ((dispatch geo (get x) r).answer ≡ 0) × (block_of geo x r ≡ b)

  -- the disk found: data blocks as the store's own get hands them out on what the recover left; those of them that X holds of
  abbrev pub FoundIs : (ℕ → Type 0) → ℕ → State → Disk → Type 0
  FoundIs X N r d = (x : ℕ) → is_data geo N x ≡ true → X x → Shows r x (d x)

  -- W-209: the block x waited at the first accepted cut of b: "byte by byte as settled or as one of its waiting writes". As it was settled
  -- there is what S had before the first of these writes, and they are the writes to x in the queue there
  pub record Loosened (r : State) (b : List Call) (w : World) (x : ℕ) : Type 0 where
    pub before : List Call
    pub ms : List ℕ
    pub behind : List Call
    pub split : b ≡ before ++ (cut ms ∷ behind)
    pub uncut : no_cut geo before w ≡ true
    pub accepted : accepted_cut geo (cut ms) (after geo before w) ≡ true
    pub waited : among x (after geo before w).plain.writes ≡ true
    pub settled : block_at (after geo before w).store.settled x ≡ (photo geo x before w no_photo).before
    pub queued : blocks_to x (queue (card_in (after geo before w).store)) ≡ (photo geo x before w no_photo).blocks
    pub answer : (dispatch geo (get x) r).answer ≡ 0
    pub size : length (block_of geo x r) ≡ block_bytes
    pub bytes : (j : ℕ) → j < block_bytes → OneOf j (get_or (block_of geo x r) j 0) (photo geo x before w no_photo)

  -- W-201: "recover hands back in it the number found"
  abbrev pub number_found : World → ℕ
  number_found w = (store_next geo recover w).rec.save

-- the group of a sync that is found new has the block
abbrev pub new_has : Fate → ℕ → Bool
new_has quiet x = false
new_has (decided G laid all) x = laid && among x (addresses G)

module _ (geo : Geometry) where
  -- A recover behind the list cs. The list is a, then b: a is empty or ends in a finished sync or recovery, and b holds none. b holds at
  -- most one sync cut short, and what became of it is known. The disk found is old or new. Old is the plain disk's S after a, with the direct
  -- writes of b laid over it; new is old with that sync's group over it: new exactly if the next accepted cut kept that sync's own header and
  -- the log found there is the log written. W-209: so it is at every block that is not loose at that recover, and at a loose one that the
  -- group of a sync found new has; any other loose one is found byte by byte. W-201: the save number found is old's, or one more if new; and
  -- it is the number of nonempty groups laid along all of cs
  pub record Atomic (st : State) (cs : List Call) : Type 0 where
    pub a : List Call
    pub b : List Call
    pub split : cs ≡ a ++ b
    pub ends : EndsFinished geo a (begun geo st)
    pub none : none_finished geo b (after geo a (begun geo st)) ≡ true
    pub one : count_short geo b (after geo a (begun geo st)) ≤ 1
    pub end : Fate
    pub fated : fate geo b (after geo a (begun geo st)) (known quiet) ≡ known end
    pub found : FoundIs geo (λ x. (among x (after geo cs (begun geo st)).plain.loose ≡ false) ⊎ (new_has end x ≡ true)) (blocks_in st.settled) (store_next geo recover (after geo cs (begun geo st)))
        (outcome end (drawn_over geo b (after geo a (begun geo st)) (after geo a (begun geo st)).plain.S)).disk
    pub loosened : (x : ℕ) → is_data geo (blocks_in st.settled) x ≡ true → among x (after geo cs (begun geo st)).plain.loose ≡ true → new_has end x ≡ false
        → Loosened geo (store_next geo recover (after geo cs (begun geo st))) b (after geo a (begun geo st)) x
    -- "found as the log has it or, if the log lacks it": the log taken has a loose block exactly if the group of a sync found new has it
    pub logged : (x : ℕ) → is_data geo (blocks_in st.settled) x ≡ true → among x (after geo cs (begun geo st)).plain.loose ≡ true
        → among x (addresses (entries geo (store_next geo recover (after geo cs (begun geo st))).settled (store_next geo recover (after geo cs (begun geo st))).rec.logged)) ≡ new_has end x
    -- "Blocks never written directly are found as before": so is a block that is not written directly since a, and one never written so is
    -- never loose
    pub unfed : (x : ℕ) → never_direct geo x cs (begun geo st) ≡ true → among x (after geo cs (begun geo st)).plain.loose ≡ false
    pub never : FoundIs geo (λ x. never_direct geo x b (after geo a (begun geo st)) ≡ true) (blocks_in st.settled) (store_next geo recover (after geo cs (begun geo st))) (outcome end (after geo a (begun geo st)).plain.S).disk
    pub whole : WholeIsNew end
    pub number : number_found geo (after geo cs (begun geo st)) ≡ (outcome end (after geo a (begun geo st)).plain.S).groups
    pub counted : number_found geo (after geo cs (begun geo st)) ≡ groups_laid geo cs (begun geo st) (known quiet)

  -- At every place of every list at which a recover answers 0 with no exception at a cut before it; cs is the list before that place,
  -- and what follows plays no part
  abbrev pub CrashAtomicity : Type 0
  CrashAtomicity =
      (st : State) → (format_call geo st).answer ≡ 0 → (cs : List Call)
      → (dispatch geo recover (after geo cs (begun geo st)).store).answer ≡ 0
      → (after geo cs (begun geo st)).excepted ≡ false
      → Atomic st cs
