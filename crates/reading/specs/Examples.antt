-- WORKED EXAMPLES: texts read beside these declarations, with their answers; a whole call, with all that is left in the lent areas; refused calls.
--     ExamplesRight     THE STATEMENT: every row is right; proofs/ has it under the name `examples_right`
use Rattle.std.specs.Prelude.{ℕ, ◌≡◌, List, [], ◌∷◌, ◌++◌, replicate}
use Rattle.bundle.specs.Bundle.{Bundle, Symbol, TermRecord, Link}
use Rattle.bundle.specs.Words.{encode}
use Rattle.logic.specs.Lists.{All}
use Rattle.expansion.specs.Answer.{Written, Refused}
use Rattle.expansion.specs.File.{file_of}
use Rattle.grammar.specs.Bytes.{bytes}
use Rattle.reading.specs.Reader.{Answer, job, refused, read_text}
use Rattle.reading.specs.Reading.{reading}

abbrev link : ℕ → ℕ → Link
link v n = record { value = v; next = n }

abbrev term : ℕ → ℕ → ℕ → ℕ → TermRecord
term k a b c = record { kind = k; a = a; b = b; c = c }

abbrev symbol : ℕ → ℕ → Symbol
symbol r s = record { result = r; sorts = s }

-- f33 is a constant of sort truth, f34 takes an item to truth, f35 two items to an item, f36 is an item; v1 and v3 are items, v2 is truth
abbrev declared_with : List TermRecord → List Link → ℕ → Bundle
declared_with ts ls l = record {
  version = 1;
  symbols = symbol 0 0 ∷ symbol 0 1 ∷ symbol 1 2 ∷ symbol 1 0 ∷ [];
  variables = 1 ∷ 0 ∷ 1 ∷ [];
  terms = ts;
  links = link 1 0 ∷ link 1 3 ∷ link 1 0 ∷ ls;
  contexts = [];
  steps = [];
  left = l;
  right = 0;
}

abbrev reads : List TermRecord → List Link → ℕ → Answer
reads ts ls l = job (declared_with ts ls l)

-- beside these a text, and the answer
pub record Row : Type 0 where
  pub text : List ℕ
  pub answer : Answer

abbrev row : List ℕ → Answer → Row
row t a = record { text = t; answer = a }

-- the answer to the text is the row's, beside the declarations b
abbrev pub Right : Bundle → Row → Type 0
Right b r = read_text b r.text ≡ r.answer

-- ---- texts, by their answers

-- read: equal terms share a record, parts come first, lists just before their record
unfoldable pub read_rows : List Row
unfolding bytes
read_rows =
    row (bytes "true") (reads (term 2 1 0 0 ∷ []) [] 1)
    ∷ row (bytes "(and true f33)") (reads (term 2 1 0 0 ∷ term 2 33 0 0 ∷ term 2 4 4 0 ∷ []) (link 1 5 ∷ link 2 0 ∷ []) 3)
    ∷ row (bytes "(f34 v1)") (reads (term 1 1 0 0 ∷ term 2 34 4 0 ∷ []) (link 1 0 ∷ []) 2)
    ∷ row (bytes "(= v1 v1)") (reads (term 1 1 0 0 ∷ term 2 8 4 0 ∷ []) (link 1 5 ∷ link 1 0 ∷ []) 2)
    ∷ row (bytes "(= v2 true)") (reads (term 1 2 0 0 ∷ term 2 1 0 0 ∷ term 2 7 4 0 ∷ []) (link 1 5 ∷ link 2 0 ∷ []) 3)
    ∷ row (bytes "(forall ((v1 Item) (v3 Item)) (= v1 v3))")
    (reads
    (term 1 1 0 0 ∷ term 1 3 0 0 ∷ term 2 8 4 0 ∷ term 3 3 3 0 ∷ term 3 1 4 0 ∷ [])
    (link 1 5 ∷ link 2 0 ∷ [])
    5)
    ∷ row (bytes "(let ((v1 f36) (v2 true)) (and v2 (f34 v1)))")
    (reads
    (term 2 36 0 0 ∷ term 2 1 0 0 ∷ term 1 2 0 0 ∷ term 1 1 0 0 ∷ term 2 34 4 0 ∷ term 2 4 5 0 ∷ term 5 7 9 6 ∷ [])
    (link 4 0 ∷ link 3 6 ∷ link 5 0 ∷ link 1 8 ∷ link 2 0 ∷ link 1 10 ∷ link 2 0 ∷ [])
    7)
    ∷ row (bytes "(not (not f33)) ; end") (reads (term 2 33 0 0 ∷ term 2 3 4 0 ∷ term 2 3 5 0 ∷ []) (link 1 0 ∷ link 2 0 ∷ []) 3)
    ∷ row (bytes "; a\r(or f33 f33)") (reads (term 2 33 0 0 ∷ term 2 5 4 0 ∷ []) (link 1 5 ∷ link 1 0 ∷ []) 2)
    ∷ row (bytes "(=> (exists((v2 Bool))v2)false)")
    (reads
    (term 1 2 0 0 ∷ term 4 2 1 0 ∷ term 2 2 0 0 ∷ term 2 6 4 0 ∷ [])
    (link 2 5 ∷ link 3 0 ∷ [])
    4)
    ∷ row (bytes "(and(not true)false)")
    (reads
    (term 2 1 0 0 ∷ term 2 3 4 0 ∷ term 2 2 0 0 ∷ term 2 4 5 0 ∷ [])
    (link 1 0 ∷ link 2 6 ∷ link 3 0 ∷ [])
    4)
    ∷ row (bytes "(not(f34(f35 v1(f35 f36 v1))))")
    (reads
    (term 1 1 0 0 ∷ term 2 36 0 0 ∷ term 2 35 4 0 ∷ term 2 35 6 0 ∷ term 2 34 8 0 ∷ term 2 3 9 0 ∷ [])
    (link 2 5 ∷ link 1 0 ∷ link 1 7 ∷ link 3 0 ∷ link 4 0 ∷ link 5 0 ∷ [])
    6)
    ∷ row (bytes "(and (f34 v1) (f34 v1))") (reads (term 1 1 0 0 ∷ term 2 34 4 0 ∷ term 2 4 5 0 ∷ []) (link 1 0 ∷ link 2 6 ∷ link 2 0 ∷ []) 3)
    ∷ []

-- 19: the byte where no text can continue, or the length
unfoldable pub unread_rows : List Row
unfolding bytes
unread_rows =
    row (bytes "(true x)") (refused 19 5)
    ∷ row (bytes "let ") (refused 19 3)
    ∷ row (bytes "let") (refused 19 3)
    ∷ row (bytes "(forall ((forall Item)) true)") (refused 19 16)
    ∷ row (bytes "(Bool true)") (refused 19 5)
    ∷ row (bytes "(forall ((v1 Int)) true)") (refused 19 14)
    ∷ row (bytes "(forall ((v1 Boolean)) true)") (refused 19 17)
    ∷ row (bytes "(forall ((v1 Ite)) true)") (refused 19 16)
    ∷ row (bytes "(and true true true)") (refused 19 15)
    ∷ row (bytes "(and true)") (refused 19 9)
    ∷ row (bytes "(not)") (refused 19 4)
    ∷ row (bytes "(f34)") (refused 19 4)
    ∷ []

-- 19, brackets and bytes; it comes before 8
unfoldable pub more_unread_rows : List Row
unfolding bytes
more_unread_rows =
    row (bytes "") (refused 19 0)
    ∷ row (bytes "  ") (refused 19 2)
    ∷ row (bytes "(") (refused 19 1)
    ∷ row (bytes "3") (refused 19 0)
    ∷ row (bytes "v1 v1") (refused 19 3)
    ∷ row (bytes ")") (refused 19 0)
    ∷ row (bytes "(let () true)") (refused 19 6)
    ∷ row (bytes "(forall () true)") (refused 19 9)
    ∷ row (bytes "|x|") (refused 19 0)
    ∷ row (bytes "v1|") (refused 19 2)
    ∷ row (bytes "\u{b}") (refused 19 0)
    ∷ row (bytes "(and f36 f36") (refused 19 12)
    ∷ row (bytes "(and | v9)") (refused 19 5)
    ∷ row (bytes "true)") (refused 19 4)
    ∷ []

-- 20: the first byte of a name that is not declared, or not of the kind due; it comes before 8, and before a later 19
unfoldable pub unknown_rows : List Row
unfolding bytes
unknown_rows =
    row (bytes "x\"") (refused 20 0)
    ∷ row (bytes "v9") (refused 20 0)
    ∷ row (bytes "(and true fals") (refused 20 10)
    ∷ row (bytes "v9|") (refused 20 0)
    ∷ row (bytes "(foo)") (refused 20 1)
    ∷ row (bytes "(v2 true)") (refused 20 1)
    ∷ row (bytes "f3") (refused 20 0)
    ∷ row (bytes "v01") (refused 20 0)
    ∷ row (bytes "v4294967297") (refused 20 0)
    ∷ row (bytes "(forall ((f33 Bool)) true)") (refused 20 10)
    ∷ row (bytes "TRUE") (refused 20 0)
    ∷ row (bytes "(tru\u{1}") (refused 20 1)
    ∷ row (bytes "a(b") (refused 20 0)
    ∷ row (bytes "(=>= true)") (refused 20 1)
    ∷ row (bytes "(and f36 v9)") (refused 20 9)
    ∷ row (bytes "(and v9 |)") (refused 20 5)
    ∷ []

-- 8: sorts, repeats in a let, argument counts of declared names, and what is not Bool
unfoldable pub missorted_rows : List Row
unfolding bytes
missorted_rows =
    row (bytes "f36") (refused 8 0)
    ∷ row (bytes "(f34 f33)") (refused 8 0)
    ∷ row (bytes "(and v1 v1)") (refused 8 0)
    ∷ row (bytes "(= v1 v2)") (refused 8 0)
    ∷ row (bytes "(forall ((v1 Bool)) true)") (refused 8 0)
    ∷ row (bytes "(let ((v1 f36) (v1 f36)) true)") (refused 8 0)
    ∷ row (bytes "(f33 true)") (refused 8 0)
    ∷ row (bytes "f34") (refused 8 0)
    ∷ row (bytes "(exists ((v2 Bool)) v1)") (refused 8 0)
    ∷ row (bytes "(let ((v2 v1)) true)") (refused 8 0)
    ∷ []

-- ---- 16

-- the same declarations with all the links that there may be: a new list is one too many
abbrev pub crowded : Bundle
crowded = declared_with [] (replicate 2045 (link 0 0)) 0

-- 16 where a section passes its limit; 19, 20 and 8 come before it
unfoldable pub crowded_rows : List Row
unfolding bytes
crowded_rows =
    row (bytes "(not f33)") (refused 16 0)
    ∷ row (bytes "(not f36)") (refused 8 0)
    ∷ row (bytes "(not v9)") (refused 20 5)
    ∷ row (bytes "(not f33") (refused 19 8)
    ∷ row (bytes "f33") (job (declared_with (term 2 33 0 0 ∷ []) (replicate 2045 (link 0 0)) 1))
    ∷ []

-- ---- calls

-- The job, and zeros after it; scratch ends zero.
abbrev pub WrittenCall : Type 0
WrittenCall =
    reading (file_of (declared_with [] [] 0)) (bytes "true") 58916 14729 4096
    ≡ record {
      answer = Written 120;
      out = file_of (declared_with (term 2 1 0 0 ∷ []) [] 1) ++ replicate 58796 0;
      words = replicate 14729 0;
      sets = replicate 4096 0;
    }

-- declarations and a text, by their bytes, and how many bytes of output, words of 32 bits and words of 64 bits are lent with them: refused with this
-- number and record
pub record RefusedCall : Type 0 where
  pub declarations : List ℕ
  pub text : List ℕ
  pub out : ℕ
  pub words : ℕ
  pub sets : ℕ
  pub number : ℕ
  pub «record» : ℕ

abbrev pub RefusedRight : RefusedCall → Type 0
RefusedRight c = (reading c.declarations c.text c.out c.words c.sets).answer ≡ Refused c.number c.«record»

abbrev refused_call : List ℕ → List ℕ → ℕ → ℕ → ℕ → ℕ → ℕ → RefusedCall
refused_call f t o w s n i = record { declarations = f; text = t; out = o; words = w; sets = s; number = n; «record» = i }

-- the declarations of words, beside "true", with areas of the least lengths
abbrev refused_declarations : List ℕ → ℕ → ℕ → RefusedCall
refused_declarations ws n i = refused_call (encode ws) (bytes "true") 58916 14729 4096 n i

unfoldable pub refused_calls : List RefusedCall
unfolding bytes encode file_of
refused_calls =
    -- 1: no header; a byte too many
    refused_call [] (bytes "true") 58916 14729 4096 1 0
    ∷ refused_call (file_of (declared_with [] [] 0) ++ (0 ∷ [])) (bytes "true") 58916 14729 4096 1 0
    -- 2: another version
    ∷ refused_declarations (2 ∷ 0 ∷ 0 ∷ 0 ∷ 0 ∷ 0 ∷ 0 ∷ 0 ∷ 0 ∷ []) 2 0
    -- 3: 65 symbols
    ∷ refused_declarations (1 ∷ 65 ∷ 0 ∷ 0 ∷ 0 ∷ 0 ∷ 0 ∷ 0 ∷ 0 ∷ []) 3 0
    -- 4: each area one short; it comes before 18
    ∷ refused_call (file_of (declared_with [] [] 1)) (bytes "true") 58915 14729 4096 4 0
    ∷ refused_call (file_of (declared_with [] [] 0)) (bytes "true") 58916 14728 4096 4 0
    ∷ refused_call (file_of (declared_with [] [] 0)) (bytes "true") 58916 14729 4095 4 0
    -- 5: the last link goes back; it comes before 18
    ∷ refused_call (file_of (declared_with [] (link 0 1 ∷ []) 1)) (bytes "true") 58916 14729 4096 5 4
    -- 6: a symbol's result; a variable's sort; it comes before 18
    ∷ refused_declarations (1 ∷ 1 ∷ 0 ∷ 0 ∷ 0 ∷ 0 ∷ 0 ∷ 0 ∷ 1 ∷ 2 ∷ 0 ∷ []) 6 1
    ∷ refused_declarations (1 ∷ 0 ∷ 2 ∷ 0 ∷ 0 ∷ 0 ∷ 0 ∷ 1 ∷ 0 ∷ 1 ∷ 2 ∷ []) 6 2
    -- 18: a term, whatever it holds; a context; a step; a left; a right; it comes before 19
    ∷ refused_declarations (1 ∷ 0 ∷ 0 ∷ 1 ∷ 0 ∷ 0 ∷ 0 ∷ 0 ∷ 0 ∷ 9 ∷ 9 ∷ 9 ∷ 9 ∷ []) 18 0
    ∷ refused_declarations (1 ∷ 0 ∷ 0 ∷ 0 ∷ 0 ∷ 1 ∷ 0 ∷ 0 ∷ 0 ∷ 9 ∷ 9 ∷ 9 ∷ 9 ∷ []) 18 0
    ∷ refused_declarations (1 ∷ 0 ∷ 0 ∷ 0 ∷ 0 ∷ 0 ∷ 1 ∷ 0 ∷ 0 ∷ 9 ∷ 9 ∷ 9 ∷ 9 ∷ 9 ∷ []) 18 0
    ∷ refused_declarations (1 ∷ 0 ∷ 0 ∷ 0 ∷ 0 ∷ 0 ∷ 0 ∷ 1 ∷ 0 ∷ []) 18 0
    ∷ refused_call (encode (1 ∷ 0 ∷ 0 ∷ 0 ∷ 0 ∷ 0 ∷ 0 ∷ 0 ∷ 1 ∷ [])) (bytes ")") 58916 14729 4096 18 0
    -- then the text
    ∷ refused_call (file_of (declared_with [] [] 0)) (bytes "(not") 58916 14729 4096 19 4
    ∷ []

-- ---- the statement

pub record ExamplesRight : Type 0 where
  pub read : All (Right (declared_with [] [] 0)) read_rows
  pub unread : All (Right (declared_with [] [] 0)) unread_rows
  pub more_unread : All (Right (declared_with [] [] 0)) more_unread_rows
  pub unknown : All (Right (declared_with [] [] 0)) unknown_rows
  pub missorted : All (Right (declared_with [] [] 0)) missorted_rows
  pub crowded : All (Right crowded) crowded_rows
  pub written : WrittenCall
  pub refused : All RefusedRight refused_calls
