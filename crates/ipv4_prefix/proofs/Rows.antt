-- The longest match and the texts at work.
use Rattle.std.proofs.Common.{refl, ◌≡◌, ℕ, List, [], ◌∷◌, Some, None, map, option_map, codes}
use Rattle.std.specs.Fmt.{digits}
use Rattle.ipv4_prefix.specs.{Prefix.Prefix, Faults.block, LongestMatch.longest_match, Texts.prefix_text}

-- 192.0.0.0/3, 192.0.0.0/4, 192.0.2.224/27, 192.0.2.240/28, 192.0.2.254/31 and 192.0.2.255/32, each with its length
rows : List (Prefix × ℕ)
rows =
    (block 0xc0000000 3, 3)
    ∷ (block 0xc0000000 4, 4)
    ∷ (block 0xc00002e0 27, 27)
    ∷ (block 0xc00002f0 28, 28)
    ∷ (block 0xc00002fe 31, 31)
    ∷ (block 0xc00002ff 32, 32)
    ∷ []

-- 192.0.2.255, .254, .253, .239, .223, 208.0.0.1 and 224.0.0.1
addresses : List ℕ
addresses = 0xc00002ff ∷ 0xc00002fe ∷ 0xc00002fd ∷ 0xc00002ef ∷ 0xc00002df ∷ 0xd0000001 ∷ 0xe0000001 ∷ []

longest_of_six : map (λ addr. option_map (λ r. r.1) (longest_match addr rows)) addresses ≡ Some 32 ∷ Some 31 ∷ Some 28 ∷ Some 27 ∷ Some 4 ∷ Some 3 ∷ None ∷ []
unfolding rows addresses
longest_of_six = refl

text_of_ten : prefix_text (block 0x0a000000 8) ≡ codes "10.0.0.0/8"
unfolding digits
text_of_ten = refl

text_of_all : prefix_text (block 0 0) ≡ codes "0.0.0.0/0"
unfolding digits
text_of_all = refl

text_of_one : prefix_text (block 0xc0000207 32) ≡ codes "192.0.2.7/32"
unfolding digits
text_of_one = refl
