-- A state and its words say the same: what is packed is unpacked to itself, both ways, equal words are equal states, and
-- every state that a run comes to has words.
use Rattle.std.specs.Prelude.{◌≡◌, ℕ, T, List, length}
use Rattle.std.proofs.Math.Option.{some}
use Rattle.model.specs.Code.{Prog, ok}
use Rattle.model.specs.Machine.{St, Move, moves, begin}
use Rattle.machine.specs.Packed.{pack, unpack, Within, Packs}

pub record WordsAreStates : Type 0 where
  -- a state that fits its words comes back from them
  pub state_back : (s : St) → Within s → unpack (length s.threads) (pack s) ≡ s
  -- words that are a state come back from the state that they unpack to
  pub words_back : (ws : List ℕ) (s : St) → Packs ws s → pack (unpack (length s.threads) ws) ≡ ws
  -- two states with the same words are the same state, and the words of one state are the same words
  pub one_state : (ws : List ℕ) (s t : St) → Packs ws s → Packs ws t → s ≡ t
  pub one_word_list : (ws us : List ℕ) (s : St) → Packs ws s → Packs us s → ws ≡ us
  -- what a run of a program within the limits comes to fits its words
  pub runs_fit : (p : Prog) (ms : List Move) (s : St) → T (ok p) → moves p (begin p) ms ≡ some s → Within s
