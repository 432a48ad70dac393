-- What a turn of the walk keeps. The idea: the path from here on, behind the places that were left, is the whole path. `done`, the places left, is no
-- variable of the code; the step count is its length, and the bytes are 1 on it and where the walk stands.
use mathlib.Core.Path.{◌≡◌, refl, sym, ap, ap₂, ◌∙◌, subst}
use mathlib.Core.Bool.{Bool, true, false, not, ◌&&◌, ◌||◌, cond}
use mathlib.Core.Logic.{◌⊎◌, inl, inr, ⊎_elim}
use mathlib.Core.List.{List, [], ◌∷◌, ◌++◌, append_assoc, append-nil}
use Prim.Native.Nat.{ℕ, zero, suc, ◌+◌, ◌-◌, ◌*◌, ◌<◌, ◌≤◌}
use native.Mathlib.Omega.{arith}
use lib.ListN.{length, get_or, set, drop, replicate, length-append, length-set}
use lib.Seq.{get_or-set_same, get_or-set_other, ext_get_or}
use lib.Dec.{eqb, ltb}
use borrow.Author.Tests.{eqb-true, eqb-false, ne_eqb, ltb-true, ltb-false, lt-ltb, not-true}
use Rattle.std.specs.declared.option.Option.{Option}
use Rattle.std.specs.declared.option.Option.TheVariants.{Some, None}
use Rattle.std.specs.Option.{is_some, unwrap_or}
use Rattle.meaning.specs.Fields.{word_at}
use Rattle.meaning.specs.Opcode.{bx}
use Rattle.meaning.specs.State.{among}
use Rattle.meaning.specs.Steps.{inst_at}
use Rattle.meaning.specs.Paths.{Point, start, Path, steps_of, stop, step_from, path, visited, visits_from, visits}
use Rattle.meaning.specs.declared.Instruction.{Instruction}
use Rattle.meaning.specs.declared.Ending.{Ending}
use Rattle.meaning.specs.declared.Ending.TheVariants.{AtReturn, NoDecision, NoBudget, Failed, Handlers}
use Rattle.meaning.proofs.Lists.{and_left, and_right, false_true, lt_or_le}
use Rattle.meaning.proofs.Images.Lawful.{handler_in}
use Rattle.reader.specs.Laid.{code_in}
use Rattle.reader.proofs.Marking.{opcode_there, bx_there}
use Rattle.walk.specs.declared.route.Walked.{Walked}
use Rattle.walk.specs.Turn.{undecided, handled, goes_on, ends_as, ending, onward, registered_after, registered}
use Rattle.walk.specs.Code.{Walkable, Decisions, Rising}
use Rattle.walk.specs.Route.{Told}
use Rattle.walk.proofs.Firsts.{not_below}
use Rattle.walk.proofs.Strikes.{next_is, Ahead, ahead_start, among_is, ahead_more}
use Rattle.walk.proofs.Onward.{jump_far, onward_in}
use Rattle.walk.proofs.Moves.{standing, moves, goes_so, ends_so, path_goes}

-- ---- the bytes

or_true : (x : Bool) → x || true ≡ true
or_true true = refl
or_true false = refl

or_none : (x : Bool) → x || false ≡ x
or_none true = refl
or_none false = refl

among_more : (m i : ℕ) (l : List ℕ) → among m (l ++ i ∷ []) ≡ (among m l || eqb m i)
among_more m i [] = or_none (eqb m i)
among_more m i (y ∷ l) = go (eqb m y) (among_more m i l)
  where
    go : (t : Bool) → among m (l ++ i ∷ []) ≡ (among m l || eqb m i) → (t || among m (l ++ i ∷ [])) ≡ ((t || among m l) || eqb m i)
    go true e = refl
    go false e = e

visits_at : (p : Path) (i n j : ℕ) → j < n → get_or (visits_from p i n) j 0 ≡ cond (visited p (i + j)) 1 0
unfolding visits_from
visits_at p i zero j h = absurd (omega arith)
visits_at p i (suc n) zero h = ap (λ (k : ℕ). cond (visited p k) 1 0) (let z : i ≡ i + 0 = omega arith in z)
visits_at p i (suc n) (suc j) h = visits_at p (suc i) n j (omega arith) ∙ ap (λ (k : ℕ). cond (visited p k) 1 0) (let z : suc i + j ≡ i + suc j = omega arith in z)

visits_first : (p : Path) (n j : ℕ) → j < n → get_or (visits p n) j 0 ≡ cond (visited p j) 1 0
visits_first p n j h = visits_at p 0 n j h ∙ ap (λ (k : ℕ). cond (visited p k) 1 0) (let z : 0 + j ≡ j = omega arith in z)

visits_length : (p : Path) (i n : ℕ) → length (visits_from p i n) ≡ n
unfolding visits_from
visits_length p i zero = refl
visits_length p i (suc n) = ap suc (visits_length p (suc i) n)

-- ---- the test of the loop

module _ (o : ℕ) (s decided within : Bool) (h : ℕ) (t : goes_on o s decided within h ≡ true) where
  pub not_return : o ≡ 20 → ⊥
  not_return = eqb-false o 20 (not-true (eqb o 20) (and_left (not (eqb o 20)) _ t))

  asked_not : undecided o s decided ≡ false
  asked_not = not-true (undecided o s decided) (and_left (not (undecided o s decided)) _ (and_right (not (eqb o 20)) _ t))

  rest_of : (within && handled o s h) ≡ true
  rest_of = and_right (not (undecided o s decided)) _ (and_right (not (eqb o 20)) _ t)

  pub is_within : within ≡ true
  is_within = and_left within _ rest_of

  is_handled : handled o s h ≡ true
  is_handled = and_right within _ rest_of

  -- a decision is left where one is asked for
  pub is_decided : (not s && eqb o 4) ≡ true → decided ≡ true
  is_decided e = go s (eqb o 4) decided e asked_not
    where
      go : (a b c : Bool) → (not a && b) ≡ true → (not a && (b && not c)) ≡ false → c ≡ true
      go true b c e f = absurd (false_true e)
      go false true true e f = refl
      go false true false e f = absurd (false_true (sym f))
      go false false c e f = absurd (false_true e)

  -- a handler is registered where a failure strikes
  pub has_handler : s ≡ true → 0 < h
  has_handler e = ltb-true 0 h (go s e (and_left (not s || ltb 0 h) _ is_handled))
    where
      go : (a : Bool) → a ≡ true → (not a || ltb 0 h) ≡ true → ltb 0 h ≡ true
      go true e f = f
      go false e f = absurd (false_true e)

  -- there is room where one is registered
  pub has_room : (not s && eqb o 48) ≡ true → h < 256
  has_room e = ltb-true h 256 (go s (eqb o 48) e (and_right (not s || ltb 0 h) _ is_handled))
    where
      go : (a b : Bool) → (not a && b) ≡ true → (a || (not b || ltb h 256)) ≡ true → ltb h 256 ≡ true
      go true b e f = absurd (false_true e)
      go false true e f = f
      go false false e f = absurd (false_true e)

-- ---- how a turn ends

abbrev ends_by : (r n w s g a b : Bool) → Option Ending
ends_by r n w s g a b = cond r (Some AtReturn) (cond n (Some NoDecision) (cond (not w) (Some NoBudget) (cond (s && not a) (Some Failed) (cond (not s && (g && not b)) (Some Handlers) None))))

abbrev goes_by : (r n w s g a b : Bool) → Bool
goes_by r n w s g a b = not r && (not n && (w && ((not s || a) && (s || (not g || b)))))

none_goes : (r n w s g a b : Bool) → ends_by r n w s g a b ≡ None → goes_by r n w s g a b ≡ true
none_goes true n w s g a b q = absurd (false_true (sym (ap is_some q)))
none_goes false true w s g a b q = absurd (false_true (sym (ap is_some q)))
none_goes false false false s g a b q = absurd (false_true (sym (ap is_some q)))
none_goes false false true true g true b q = refl
none_goes false false true true g false b q = absurd (false_true (sym (ap is_some q)))
none_goes false false true false true a true q = refl
none_goes false false true false true a false q = absurd (false_true (sym (ap is_some q)))
none_goes false false true false false a b q = refl

some_ends : (r n w s g a b : Bool) (e : Ending) → ends_by r n w s g a b ≡ Some e → (goes_by r n w s g a b ≡ false) × (e ≡ cond r AtReturn (cond n NoDecision (cond (not w) NoBudget (cond s Failed Handlers))))
some_ends true n w s g a b e q = (refl, sym (ap (λ (o : Option Ending). unwrap_or o AtReturn) q))
some_ends false true w s g a b e q = (refl, sym (ap (λ (o : Option Ending). unwrap_or o AtReturn) q))
some_ends false false false s g a b e q = (refl, sym (ap (λ (o : Option Ending). unwrap_or o AtReturn) q))
some_ends false false true true g true b e q = absurd (false_true (ap is_some q))
some_ends false false true true g false b e q = (refl, sym (ap (λ (o : Option Ending). unwrap_or o AtReturn) q))
some_ends false false true false true a true e q = absurd (false_true (ap is_some q))
some_ends false false true false true a false e q = (refl, sym (ap (λ (o : Option Ending). unwrap_or o AtReturn) q))
some_ends false false true false false a b e q = absurd (false_true (ap is_some q))

none_registered : (h : ℕ) → eqb h 0 ≡ not (ltb 0 h)
none_registered zero = refl
none_registered (suc h) = rw (lt-ltb 0 (suc h) (omega arith)) (ne_eqb (suc h) 0 (λ e. omega arith))

module _ (o : ℕ) (s decided within : Bool) (h : ℕ) where
  ending_is : ending o s decided within h ≡ ends_by (eqb o 20) (undecided o s decided) within s (eqb o 48) (ltb 0 h) (ltb h 256)
  ending_is = ap₂ (λ (x y : Bool).
      (let e : Option Ending = cond (eqb o 20) (Some AtReturn) (cond (undecided o s decided) (Some NoDecision) (cond (not within) (Some NoBudget) (cond (s && x) (Some Failed) (cond (not s && (eqb o 48 && y)) (Some Handlers) None)))) in e))
      (none_registered h) (not_below 256 h)

  pub on_none : ending o s decided within h ≡ None → goes_on o s decided within h ≡ true
  on_none q = none_goes (eqb o 20) (undecided o s decided) within s (eqb o 48) (ltb 0 h) (ltb h 256) (sym ending_is ∙ q)

  pub on_some : (e : Ending) → ending o s decided within h ≡ Some e → (goes_on o s decided within h ≡ false) × (e ≡ ends_as o s decided within)
  on_some e q = some_ends (eqb o 20) (undecided o s decided) within s (eqb o 48) (ltb 0 h) (ltb h 256) e (sym ending_is ∙ q)

-- ---- a turn

-- steps from these places, then the path p
abbrev after : List ℕ → Path → Path
after done p = record { left = done ++ p.left; stood = p.stood; ended = p.ended }

-- the walk stands at i with k decisions used, m strikes behind it, and the first h of `hs` registered. `done` are the places that it left
pub record Walking (s : List ℕ) (tag span at n : ℕ) (ds ss : List ℕ) (budget room : ℕ) (vis hs : List ℕ) (h i k m steps : ℕ) : Type 0 where
  pub done : List ℕ
  pub count : length done ≡ steps
  pub within : steps ≤ budget
  pub here : i < n
  pub used : k ≤ length ds
  pub full : length hs ≡ 256
  pub most : h ≤ 256
  pub inside : (t : ℕ) → t < h → get_or hs t 0 < n
  pub ahead : Ahead ss m steps
  pub size : length vis ≡ room
  pub marks : (j : ℕ) → get_or vis j 0 ≡ cond (among j done || eqb j i) 1 0
  pub rest : path budget (code_in s tag span at n) ss (start ds) ≡ after done (path (budget - steps) (code_in s tag span at n) ss (standing i (drop k ds) steps (registered hs h)))

-- one more place that was left
after_step : (done : List ℕ) (p : Point) (q : Path) → after done (step_from p q) ≡ after (done ++ p.place ∷ []) q
after_step done p q = ap (λ (l : List ℕ). (let r : Path = record { left = l; stood = q.stood; ended = q.ended } in r)) (sym (append_assoc done (p.place ∷ []) q.left))

path_same : (a b : ℕ) (code : List Instruction) (ss : List ℕ) (p : Point) → a ≡ b → path a code ss p ≡ path b code ss p
path_same a b code ss p e = ap (λ (n : ℕ). path n code ss p) e

module _ (s : List ℕ) (tag span at n : ℕ) (v : Walkable s tag span at n) (ds ss : List ℕ) (rising : Rising ss) (budget room : ℕ) where
  abbrev code : List Instruction
  code = code_in s tag span at n

  pub walking_start : (vis₀ hs : List ℕ) → n ≤ room → length vis₀ ≡ room → vis₀ ≡ replicate room 0 → length hs ≡ 256
      → Walking s tag span at n ds ss budget room (set vis₀ 0 1) hs 0 0 0 0 0
  walking_start vis₀ hs h e z f = record {
    done = [];
    count = refl;
    within = omega arith;
    here = v.some;
    used = omega arith;
    full = f;
    most = omega arith;
    inside = λ t l. absurd (omega arith);
    ahead = ahead_start ss;
    size = length-set vis₀ 0 1 ∙ e;
    marks = λ j. ⊎_elim
        (λ (r : j ≡ 0). rw (r) (get_or-set_same vis₀ 0 1 0 (omega (arith, v.some))))
        (λ (r : 0 < j). rw (ne_eqb j 0 (λ t. omega arith)) (get_or-set_other vis₀ 0 j 1 0 (λ t. omega arith) ∙ rw z (zero_at room j)))
        (zero_or j);
    rest = path_same budget (budget - 0) code ss (start ds) (omega arith);
  }
    where
      zero_or : (j : ℕ) → (j ≡ 0) ⊎ (0 < j)
      zero_or zero = inl refl
      zero_or (suc j) = inr (omega arith)

      zero_at : (r j : ℕ) → ◌≡◌ {A = ℕ} (get_or (replicate r 0) j 0) 0
      zero_at zero j = refl
      zero_at (suc r) zero = refl
      zero_at (suc r) (suc j) = zero_at r j

  module _ (vis hs : List ℕ) (h i k m steps : ℕ) (t : Walking s tag span at n ds ss budget room vis hs h i k m steps) (o : ℕ) (eo : o ≡ get_or s (at + i * span + 3) 0) (struck : Bool) (es : struck ≡ next_is ss m steps) where
    abbrev x : Instruction
    x = inst_at code i

    abbrev now_at : Point
    now_at = standing i (drop k ds) steps (registered hs h)

    abbrev whole : Path
    whole = path budget code ss (start ds)

    op : x.opcode ≡ o
    op = opcode_there s tag span at n i t.here ∙ sym eo

    strikes_now : among steps ss ≡ struck
    strikes_now = among_is ss rising m steps t.ahead ∙ sym es

    -- the walk ends here
    module _ (stops : goes_on o struck (ltb k (length ds)) (ltb steps budget) h ≡ false) where
      abbrev e : Ending
      e = ends_as o struck (ltb k (length ds)) (ltb steps budget)

      ends_here : path (budget - steps) code ss now_at ≡ stop now_at e
      ends_here = ends_so code ss now_at _ (cond struck Failed Handlers) (budget - steps) (eqb o 20) (undecided o struck (ltb k (length ds))) (ltb steps budget) (handled o struck h)
          (λ q. omega (arith, ltb-false steps budget q)) (λ q. omega (arith, ltb-true steps budget q))
          (moves x ds k i steps hs h o (bx x) (get_or ds k 0) t.used t.full ss struck (λ q. refl) strikes_now op refl) stops

      whole_path : whole ≡ after t.done (stop now_at e)
      whole_path = t.rest ∙ ap (after t.done) ends_here

      pub told : (r : Walked) → r.steps ≡ steps → r.stood ≡ i → r.ended ≡ e → Told whole budget r
      told r a b c = record {
        steps = a ∙ sym t.count ∙ ap length (sym (append-nil t.done)) ∙ ap steps_of (sym whole_path);
        within = omega (arith, t.within, a);
        stood = b ∙ sym (ap (λ (p : Path). p.stood) whole_path);
        ended = c ∙ sym (ap (λ (p : Path). p.ended) whole_path);
      }

      pub seen : vis ≡ visits whole room
      seen = rw whole_path (ext_get_or 0 vis (visits (after t.done (stop now_at e)) room) (t.size ∙ sym (visits_length (after t.done (stop now_at e)) 0 room))
          (λ j l. t.marks j ∙ ap (λ (l : List ℕ). cond (among j l || eqb j i) 1 0) (sym (append-nil t.done)) ∙ sym (visits_first (after t.done (stop now_at e)) room j (omega (arith, t.size)))))

    -- the walk goes on
    module _ (on : goes_on o struck (ltb k (length ds)) (ltb steps budget) h ≡ true) (decisions : Decisions ds) (w : ℕ) (ew : w ≡ word_at s (at + i * span + 5)) (d : ℕ)
        (ed : (not struck && eqb o 4) ≡ true → d ≡ get_or ds k 0) where
      wide : bx x ≡ w
      wide = bx_there s tag span at n i t.here ∙ sym ew

      pub far : 32768 ≤ w → o ≡ 3 → 65536 ≤ i + w
      far l q = omega (arith, wide, jump_far n i x (v.stays i t.here) (omega (arith, wide)) (op ∙ q))

      abbrev j : ℕ
      j = cond struck (get_or hs (h - 1) 0) (onward o w i d)

      pub inside_again : j < n
      inside_again = go struck refl
        where
          go : (b : Bool) → struck ≡ b → cond b (get_or hs (h - 1) 0) (onward o w i d) < n
          go true q = t.inside (h - 1) (let z = has_handler o struck (ltb k (length ds)) (ltb steps budget) h on q in omega arith)
          go false q = subst (λ (y : ℕ). y < n) (ap₂ (λ (y z : ℕ). onward y z i d) op wide)
              (onward_in n i x (v.stays i t.here) d
              (λ r. let z = ed (rw (q, ap (λ (y : ℕ). eqb y 4) (sym op ∙ r)) refl) in let y = decisions k in omega arith)
              (λ r. not_return o struck (ltb k (length ds)) (ltb steps budget) h on (sym op ∙ r)))

      module _ (hs' : List ℕ) (eh : hs' ≡ cond (not struck && eqb o 48) (set hs h (i + w)) hs) (h' : ℕ) (en : h' ≡ registered_after o struck h) (k' : ℕ) (ek : k' ≡ cond (not struck && eqb o 4) (k + 1) k)
          (m' : ℕ) (em : m' ≡ cond struck (m + 1) m) (i' : ℕ) (ei : i' ≡ j) where
        used_again : k' ≤ length ds
        used_again = rw ek (go (not struck && eqb o 4) refl)
          where
            go : (b : Bool) → (not struck && eqb o 4) ≡ b → cond b (k + 1) k ≤ length ds
            go true q = let z = ltb-true k (length ds) (is_decided o struck (ltb k (length ds)) (ltb steps budget) h on q) in omega arith
            go false q = t.used

        full_again : length hs' ≡ 256
        full_again = rw eh (go (not struck && eqb o 48))
          where
            go : (b : Bool) → length (cond b (set hs h (i + w)) hs) ≡ 256
            go true = length-set hs h (i + w) ∙ t.full
            go false = t.full

        -- the handlers registered stand within the prototype
        handlers_again : (h' ≤ 256) × ((u : ℕ) → u < h' → get_or hs' u 0 < n)
        handlers_again = rw (eh, en) (go struck refl (eqb o 48) refl (eqb o 49))
          where
            kept : (u : ℕ) → u < h → get_or hs u 0 < n
            kept = t.inside

            put : struck ≡ false → o ≡ 48 → (h + 1 ≤ 256) × ((u : ℕ) → u < h + 1 → get_or (set hs h (i + w)) u 0 < n)
            put q r =
                let room_for = has_room o struck (ltb k (length ds)) (ltb steps budget) h on (rw (q, r) refl) in (
                  omega arith,
                  λ u l. ⊎_elim
                      (λ (c : u < h). let y = get_or-set_other hs h u (i + w) 0 (λ z. omega arith) in let z = kept u c in omega arith)
                      (λ (c : h ≤ u). subst (λ (y : ℕ). get_or (set hs h (i + w)) y 0 < n) (let z : h ≡ u = omega arith in z)
                      (let y = get_or-set_same hs h (i + w) 0 (omega (arith, t.full)) in let z = handler_in n i x (v.stays i t.here) (op ∙ r) in omega (arith, wide)))
                      (lt_or_le u h),
                )

            go : (a : Bool) → struck ≡ a → (b : Bool) → eqb o 48 ≡ b → (c : Bool)
                → (cond a h (cond b (h + 1) (cond c (h - 1) h)) ≤ 256) × ((u : ℕ) → u < cond a h (cond b (h + 1) (cond c (h - 1) h)) → get_or (cond (not a && b) (set hs h (i + w)) hs) u 0 < n)
            go true q b r c = (t.most, kept)
            go false q true r c = put q (eqb-true o 48 r)
            go false q false r true = (omega (arith, t.most), λ u l. kept u (omega arith))
            go false q false r false = (t.most, kept)

        stepped : steps < budget → path (budget - steps) code ss now_at ≡ step_from now_at (path (budget - (steps + 1)) code ss (standing i' (drop k' ds) (steps + 1) (registered hs' h')))
        stepped l =
            path_same (budget - steps) (suc (budget - (steps + 1))) code ss now_at (omega arith)
            ∙ path_goes code ss now_at _ (cond struck Failed Handlers) (budget - (steps + 1)) (goes_so code ss now_at _ (cond struck Failed Handlers) (eqb o 20) (undecided o struck (ltb k (length ds))) (ltb steps budget) (handled o struck h)
            (moves x ds k i steps hs h o w d t.used t.full ss struck ed strikes_now op wide) on)
            ∙ ap (λ (p : Point). step_from now_at (path (budget - (steps + 1)) code ss p)) (rw (eh, en, ek, ei) refl)

        pub walking_more : n ≤ room → Walking s tag span at n ds ss budget room (set vis i' 1) hs' h' i' k' m' (steps + 1)
        walking_more fits =
            let within = ltb-true steps budget (is_within o struck (ltb k (length ds)) (ltb steps budget) h on) in
            record {
              done = t.done ++ i ∷ [];
              count = length-append t.done (i ∷ []) ∙ omega (arith, t.count);
              within = omega arith;
              here = omega (arith, inside_again, ei);
              used = used_again;
              full = full_again;
              most = handlers_again.0;
              inside = handlers_again.1;
              ahead = rw em (subst (λ (c : Bool). Ahead ss (cond c (m + 1) m) (steps + 1)) (sym es) (ahead_more ss rising m steps t.ahead (next_is ss m steps) refl));
              size = length-set vis i' 1 ∙ t.size;
              marks = λ u. marked u (eqb u i') refl;
              rest = t.rest ∙ ap (after t.done) (stepped within) ∙ after_step t.done now_at _;
            }
          where
            marked : (u : ℕ) → (b : Bool) → eqb u i' ≡ b → get_or (set vis i' 1) u 0 ≡ cond (among u (t.done ++ i ∷ []) || eqb u i') 1 0
            marked u true p = rw (p, or_true (among u (t.done ++ i ∷ []))) (rw (eqb-true u i' p) (get_or-set_same vis i' 1 0 (omega (arith, inside_again, ei, t.size))))
            marked u false p = rw (p, or_none (among u (t.done ++ i ∷ [])), among_more u i t.done) (get_or-set_other vis i' u 1 0 (eqb-false u i' p) ∙ t.marks u)
