-- The package of 01's example and its variants (a) to (k), as bytes (01, "Pairs of packages to prove over the definitions").
-- Assumes nothing.
use Rattle.std.specs.Prelude.{ℕ, ◌≡◌, List, [], ◌∷◌, ◌++◌}
use Prim.Native.String.{String, [] as []ˢ, ◌∷◌ as ◌∷ˢ◌}
use Prim.Native.Char.{code}
use Rattle.meaning.specs.Reading.{Answer, answer}
use Rattle.meaning.specs.Check.{check_of}

unfoldable pub bytes : String → List ℕ
bytes []ˢ = []
bytes (c ∷ˢ s) = code c ∷ bytes s

-- what the variants share, and what each adds or changes in the order of the text
unfoldable pub variant : String → String → String → String → String → List ℕ
unfolding bytes
variant domains pairs classes methods effects =
    bytes domains
    ++ (bytes "020102\n020103\n020204\n020304\n"
    ++ (bytes pairs
    ++ (bytes "030000\n03010100\n03020101\n03030101\n03040100\n"
    ++ (bytes classes
    ++ (bytes methods
    ++ (bytes "06000002\n06000003\n06000701\n"
    ++ (bytes effects
    ++ bytes "07\n")))))))

pub record Case : Type 0 where
  pub text : List ℕ
  pub answers : Answer

abbrev pub case : List ℕ → Answer → Case
case s a = record { text = s; answers = a }

abbrev pub cases : List Case
cases =
    case (variant "010205\n" "" "" "050404010000FF00\n050303000001FF0101\n" "") (answer 0 0 0)  -- (a)
    ∷ case (variant "010205\n" "" "" "050404010000FF00\n050303000001FF0101\n" "06010102\n") (answer 26 3 0)  -- (b)
    ∷ case (variant "010205\n" "" "" "050404010000FF00\n050303000001FF0102\n" "") (answer 0 0 0)  -- (c)
    ∷ case (variant "010205\n" "" "" "050403010000FF00\n050303000001FF0102\n" "") (answer 30 2 0)  -- (d)
    ∷ case (variant "010205\n" "" "" "050402010000FF00\n050303000001FF0102\n" "") (answer 29 2 0)  -- (e)
    ∷ case (variant "010205\n" "020401\n" "" "050404010000FF00\n050303000001FF0101\n" "") (answer 10 1 2)  -- (f)
    ∷ case (variant "010205\n" "" "03040103\n" "050404010000FF00\n050303000001FF0101\n" "") (answer 22 2 5)  -- (g)
    ∷ case (variant "010206\n" "020305\n" "03050103\n" "050404010000FF00\n050303000001FF0101\n050503000001FF0101\n" "") (answer 0 0 0)  -- (h)
    ∷ case (variant "010206\n" "020305\n" "03050103\n" "050404010000FF00\n050303000001FF0101\n050505000001FF0101\n" "") (answer 23 2 1)  -- (i)
    ∷ case (variant "010206\n" "020305\n" "03050103\n" "050404010000FF00\n050303000001020101\n050503000001020101\n" "") (answer 24 2 1)  -- (j)
    ∷ case (variant "010206\n" "020305\n" "03050103\n" "050404010000FF00\n050303000001FF0102\n050503000001FF0102\n" "") (answer 25 2 1)  -- (k)
    ∷ []

-- the shared statement
abbrev pub AllRight : List Case → Type 0
AllRight [] = Unit {0}
AllRight (c ∷ cs) = (check_of c.text ≡ c.answers) × AllRight cs
