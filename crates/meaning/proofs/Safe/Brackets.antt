-- What is entered and left: a block, a loop, a function.
-- The idea: within a block or a loop the same is given as outside, but that a loop's value is judged within the loop. A function's code is
-- lowered with no loop open, so it is finished when it is left. Then the chain of captures says of the functions around it what a Closure
-- needs: each capture names what the creator has. The creator changed by added captures alone.
use Prim.Native.Nat.{ℕ, ◌+◌, ◌≤◌, ◌<◌}
use mathlib.Core.Path.{◌≡◌, refl, sym, ap, ◌∙◌, subst}
use mathlib.Core.List.{List, [], ◌∷◌, ◌++◌, append-nil, append_assoc}
use native.Mathlib.Nat.{le_refl, le_of_eq}
use native.Mathlib.Omega.{arith}
use lib.ListN.{length}
use lib.Dec.{eqb, leb, ltb}
use borrow.Author.Tests.{eqb-false, ltb-false}
use Rattle.meaning.specs.Constant.{Constant}
use Rattle.meaning.specs.State.{State, Open, Local, Capture, Proto, Chunk, M, and_then, ◌>>=◌, ◌>>◌, pure, refuse, get, set_current, enter_block, leave_block, in_block, enter_loop, leave_loop, in_loop, enter_function, add_prototype, close_function, in_function, around, rest, fresh}
use Rattle.meaning.specs.Safety.{All, Holds, Fits}
use Rattle.meaning.specs.declared.Instruction.{Instruction}
use Rattle.meaning.proofs.Grows.{Outer}
use Rattle.meaning.proofs.Safe.Obeys.{View, view, looped, Creates, Grown, grown_same, grown_chain, holds_new, one_more, widen}
use Rattle.meaning.proofs.Safe.Patches.{encoded}
use Rattle.meaning.proofs.Safe.Lookup.{widened_captures}
use Rattle.meaning.proofs.Safe.Sound.{Locals, Chain, Finished, Protos, Pools, Sound, More, OnDone, Gives, Always, then_done, if_done, regs, encoded_holds, Code, Loose}

-- ---- blocks and loops

locals_rest : (n : ℕ) (bs : List (List Local)) → Locals n bs → Locals n (rest bs)
locals_rest n [] h = tt
locals_rest n (b ∷ bs) h = h.1

pub block_gives : {A : Type 0} {m : M A} {Q : A → View → Type 0} (s : State) → Sound s → ((t : State) → Sound t → regs t ≡ regs s → Gives m t Q) → Gives (in_block m) s Q
unfolding in_block ◌>>=◌ ◌>>◌ and_then enter_block leave_block get set_current pure
block_gives {m} s σ h =
    record {
      at = then_done _ _ (m _) _ (h _ (record { locals = (tt, σ.locals); chain = σ.chain; pools = σ.pools }) refl).at (λ a t k. (
        record { locals = locals_rest _ t.current.blocks k.0.locals; chain = k.0.chain; pools = k.0.pools },
        record { wider = k.1.wider; loops = k.1.loops; outer = k.1.outer },
        k.2,
      ));
    }

-- what is lowered within a loop is judged there
abbrev pub Looped : {A : Type 0} → (A → View → Type 0) → A → View → Type 0
Looped Q a v = Q a (looped v)

pub loop_gives : {m : M Chunk} → Always m Loose → Always (in_loop m) (Looped Loose)
unfolding in_loop ◌>>=◌ ◌>>◌ and_then enter_loop leave_loop get set_current pure
loop_gives {m} h s σ =
    record {
      at = then_done _ _ (m _) _ (h _ (record { locals = σ.locals; chain = σ.chain; pools = σ.pools })).at (λ a t k.
          let l : t.current.loops ≡ s.current.loops + 1 = k.1.loops in (
            record { locals = k.0.locals; chain = k.0.chain; pools = k.0.pools },
            record {
              wider = record { registers = k.1.wider.registers; captures = k.1.wider.captures; loops = omega (arith, l); constants = k.1.wider.constants; prototypes = k.1.wider.prototypes };
              loops = omega (arith, l);
              outer = k.1.outer;
            },
            record {
              code = widen a.code (record { registers = le_refl _; captures = le_refl _; loops = omega (arith, l); constants = grown_same _; prototypes = grown_same _ }) k.2.code;
              result = k.2.result;
            },
          ));
    }

-- ---- a function is entered

-- the state in which a function's code is lowered
record Entered (name : ℕ) (s t : State) : Type 0 where
  current : t.current ≡ fresh name
  outer : t.outer ≡ s.current ∷ s.outer
  prototypes : t.prototypes ≡ s.prototypes
  constants : t.constants ≡ s.constants

enter_done : (node name : ℕ) (s : State) → OnDone (λ a t. Entered name s t) (enter_function node name s)
unfolding enter_function refuse
enter_done node name s = if_done _ (leb 7 (length s.outer)) _ _ s (λ e. tt) (λ e. record { current = refl; outer = refl; prototypes = refl; constants = refl })

entered_sound : (name : ℕ) (s t : State) → Sound s → Entered name s t → Sound t
entered_sound name s t σ e =
    record {
      locals = subst (λ (f : Open). Locals f.registers f.blocks) (sym e.current) (tt, tt);
      chain = subst (λ (l : List Open). Chain t.current.captures l) (sym e.outer)
          (subst (λ (f : Open). All (Fits (regs s) (length s.current.captures)) f.captures) (sym e.current) tt, σ.locals, σ.chain);
      pools = subst (λ (l : List Constant). Pools l t.prototypes) (sym e.constants) (subst (Pools s.constants) (sym e.prototypes) σ.pools);
    }

-- ---- its prototype is added

protos_append : (cs : List Constant) (earlier ps : List Proto) (q : Proto) → Protos cs earlier ps → Finished cs (earlier ++ ps) q → Protos cs earlier (ps ++ q ∷ [])
protos_append cs earlier [] q h k = (subst (λ (l : List Proto). Finished cs l q) (append-nil earlier) k, tt)
protos_append cs earlier (p ∷ ps) q h k =
    (h.0, protos_append cs (earlier ++ p ∷ []) ps q h.1 (subst (λ (l : List Proto). Finished cs l q) (sym (append_assoc earlier (p ∷ []) ps)) k))

-- v is u with the prototype of the current function added
pub record Added (u v : State) (i : ℕ) : Type 0 where
  pub outer : v.outer ≡ u.outer
  pub proto : Proto
  pub captures : proto.captures ≡ u.current.captures
  pub constants : v.constants ≡ u.constants
  pub prototypes : v.prototypes ≡ u.prototypes ++ proto ∷ []
  pub index : i ≡ length u.prototypes
  pub few : i < 256
  pub pools : Pools v.constants v.prototypes

pub prototype_done : (node params : ℕ) (code : List Instruction) (u : State) → Sound u → u.current.loops ≡ 0 → Code code (view u) → OnDone (λ i v. Added u v i) (add_prototype node params code u)
unfolding add_prototype refuse
prototype_done node params code u υ z h =
    if_done _ (ltb 32767 (length code + 1)) _ _ u (λ e. tt) λ e.
    if_done _ (eqb (length u.prototypes) 256) _ _ u (λ e'. tt) λ e'.
    let small = ltb-false 32767 (length code + 1) e in
    let ne = eqb-false (length u.prototypes) 256 e' in
    let few = υ.pools.few_prototypes in
    record {
      outer = refl;
      proto = _;
      captures = refl;
      constants = refl;
      prototypes = refl;
      index = refl;
      few = omega (arith, few, ne);
      pools = record {
        few_constants = υ.pools.few_constants;
        few_prototypes = one_more u.prototypes _ (omega (arith, few, ne));
        protos = protos_append u.constants [] u.prototypes _ υ.pools.protos
            (record {
              body = code;
              code = refl;
              short = omega (arith, small);
              sane = widen code (record { registers = le_refl _; captures = le_refl _; loops = le_of_eq z; constants = grown_same _; prototypes = grown_same _ }) h;
            });
      };
    }

-- ---- it is left

-- the function around is as it was, but for captures, and has what the captures of the one that is left name
record Left (s : State) (cs : List Capture) (f : Open) (fs : List Open) : Type 0 where
  locals : Locals f.registers f.blocks
  chain : Chain f.captures fs
  fit : All (Fits f.registers (length f.captures)) cs
  registers : f.registers ≡ regs s
  captures : length s.current.captures ≤ length f.captures
  loops : f.loops ≡ s.current.loops
  outer : Outer s.outer fs

leave : (s : State) (cs : List Capture) (c : Open) (os : List Open) → Outer (s.current ∷ s.outer) os → Chain cs os → Left s cs (around c os) (rest os)
leave s cs c [] h k = absurd h
leave s cs c (g ∷ gs) h k =
    record { locals = k.1; chain = k.2; fit = k.0; registers = h.0.registers; captures = widened_captures s.current g h.0; loops = h.0.loops; outer = h.1 }

-- from the state in which a function is entered to the one in which its prototype was added
left_by : (name : ℕ) (s t u v : State) (i : ℕ) → Entered name s t → Sound u → More t u → Added u v i → Left s u.current.captures (around v.current v.outer) (rest v.outer)
left_by name s t u v i e υ g w =
    leave s u.current.captures v.current v.outer
    (subst (λ (l : List Open). Outer l v.outer) e.outer (subst (λ (l : List Open). Outer t.outer l) (sym w.outer) g.outer))
    (subst (λ (l : List Open). Chain u.current.captures l) (sym w.outer) υ.chain)

grown_from : {A : Type 0} {xs ys zs : List A} → ys ≡ xs → Grown ys zs → Grown xs zs
grown_from {A} {xs} {ys} {zs} e g = subst (λ (l : List A). Grown l zs) e g

grown_to : {A : Type 0} {xs ys zs : List A} → zs ≡ ys → Grown xs ys → Grown xs zs
grown_to {A} {xs} {ys} {zs} e g = subst (λ (l : List A). Grown xs l) (sym e) g

-- the new prototype is the i-th, and its captures fit the function f that creates it
made : (u v : State) (f : Open) (i : ℕ) → Added u v i → All (Fits f.registers (length f.captures)) u.current.captures → Holds (Creates f.registers (length f.captures)) v.prototypes i
made u v f i a h =
    holds_new (Creates f.registers (length f.captures)) u.prototypes v.prototypes a.proto i a.prototypes a.index
    (subst (All (Fits f.registers (length f.captures))) (sym a.captures) h)

-- its index as an instruction has it
abbrev pub Made : State → ℕ → View → Type 0
Made s i v = (v.registers ≡ regs s) × Holds (Creates v.registers v.captures) v.prototypes (encoded i)

pub function_gives : (node name params : ℕ) {m : M (List Instruction)} → ((t : State) → Sound t → regs t ≡ 0 → Gives m t Code) → (s : State) → Sound s → Gives (in_function node name params m) s (Made s)
unfolding in_function ◌>>=◌ ◌>>◌ and_then close_function pure
function_gives node name params {m} h s σ = record {
  at =
      then_done _ _ (enter_function node name s) _ (enter_done node name s) λ a t e.
      then_done _ _ (m t) _ (h t (entered_sound name s t σ e) (ap (λ (f : Open). f.registers) e.current)).at λ code u k.
      then_done _ _ (add_prototype node params code u) _ (prototype_done node params code u k.0 (k.1.loops ∙ ap (λ (f : Open). f.loops) e.current) k.2) λ index v w.
      let p = left_by name s t u v index e k.0 k.1 w in
      let few = w.few in (
        record { locals = p.locals; chain = p.chain; pools = w.pools },
        record {
          wider = record {
            registers = le_of_eq (sym p.registers);
            captures = p.captures;
            loops = le_of_eq (sym p.loops);
            constants = grown_to w.constants (grown_from e.constants k.1.wider.constants);
            prototypes = grown_chain (grown_from e.prototypes k.1.wider.prototypes) (record { more = w.proto ∷ []; is = w.prototypes });
          };
          loops = p.loops;
          outer = p.outer;
        },
        (p.registers, encoded_holds _ v.prototypes index (omega (arith, few)) (made u v (around v.current v.outer) index w p.fit)),
      );
}
