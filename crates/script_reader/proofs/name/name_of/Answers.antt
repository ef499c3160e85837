use Rattle.script_reader.proofs.Prelude.{sym, ap, name_of}
use Rattle.script_reader.proofs.NameLaws.{of_three, of_four, of_five, of_six}
use Rattle.script_reader.proofs.name.name_of.Goals as goal

-- mev
pub returns-in-109-2 : goal.returns-in-109-2
returns-in-109-2 c = sym (ap name_of (of_three c.args.word.now 109 101 118 c.in-109-2.len_at_least c.in-109-2.len_below (assumption) (assumption) (assumption)))

-- mef
pub returns-in-109-3 : goal.returns-in-109-3
returns-in-109-3 c = sym (ap name_of (of_three c.args.word.now 109 101 102 c.in-109-3.len_at_least c.in-109-3.len_below (assumption) (assumption) (assumption)))

-- kev
pub returns-in-107-2 : goal.returns-in-107-2
returns-in-107-2 c = sym (ap name_of (of_three c.args.word.now 107 101 118 c.in-107-2.len_at_least c.in-107-2.len_below (assumption) (assumption) (assumption)))

-- kef
pub returns-in-107-3 : goal.returns-in-107-3
returns-in-107-3 c = sym (ap name_of (of_three c.args.word.now 107 101 102 c.in-107-3.len_at_least c.in-107-3.len_below (assumption) (assumption) (assumption)))

-- mvfs
pub returns-in-109 : goal.returns-in-109
returns-in-109 c = sym (ap name_of (of_four c.args.word.now 109 118 102 115 c.in-109.len_at_least c.in-109.len_below (assumption) (assumption) (assumption) (assumption)))

-- mekr
pub returns-in-109-4 : goal.returns-in-109-4
returns-in-109-4 c = sym (ap name_of (of_four c.args.word.now 109 101 107 114 c.in-109-4.len_at_least c.in-109-4.len_below (assumption) (assumption) (assumption) (assumption)))

-- kvfs
pub returns-in-107 : goal.returns-in-107
returns-in-107 c = sym (ap name_of (of_four c.args.word.now 107 118 102 115 c.in-107.len_at_least c.in-107.len_below (assumption) (assumption) (assumption) (assumption)))

-- kemr
pub returns-in-107-4 : goal.returns-in-107-4
returns-in-107-4 c = sym (ap name_of (of_four c.args.word.now 107 101 109 114 c.in-107-4.len_at_least c.in-107-4.len_below (assumption) (assumption) (assumption) (assumption)))

-- glue
pub returns-in-103 : goal.returns-in-103
returns-in-103 c = sym (ap name_of (of_four c.args.word.now 103 108 117 101 c.in-103.len_at_least c.in-103.len_below (assumption) (assumption) (assumption) (assumption)))

-- undo
pub returns-in-117 : goal.returns-in-117
returns-in-117 c = sym (ap name_of (of_four c.args.word.now 117 110 100 111 c.in-117.len_at_least c.in-117.len_below (assumption) (assumption) (assumption) (assumption)))

-- redo
pub returns-in-114-2 : goal.returns-in-114-2
returns-in-114-2 c = sym (ap name_of (of_four c.args.word.now 114 101 100 111 c.in-114-2.len_at_least c.in-114-2.len_below (assumption) (assumption) (assumption) (assumption)))

-- list
pub returns-in-108-2 : goal.returns-in-108-2
returns-in-108-2 c = sym (ap name_of (of_four c.args.word.now 108 105 115 116 c.in-108-2.len_at_least c.in-108-2.len_below (assumption) (assumption) (assumption) (assumption)))

-- kfmrh
pub returns-in-107-5 : goal.returns-in-107-5
returns-in-107-5 c = sym (ap name_of (of_five c.args.word.now 107 102 109 114 104 c.in-107-5.len_at_least c.in-107-5.len_below (assumption) (assumption) (assumption) (assumption) (assumption)))

-- mfkrh
pub returns-in-109-5 : goal.returns-in-109-5
returns-in-109-5 c = sym (ap name_of (of_five c.args.word.now 109 102 107 114 104 c.in-109-5.len_at_least c.in-109-5.len_below (assumption) (assumption) (assumption) (assumption) (assumption)))

-- block
pub returns-in-98 : goal.returns-in-98
returns-in-98 c = sym (ap name_of (of_five c.args.word.now 98 108 111 99 107 c.in-98.len_at_least c.in-98.len_below (assumption) (assumption) (assumption) (assumption) (assumption)))

-- sweep
pub returns-in-115 : goal.returns-in-115
returns-in-115 c = sym (ap name_of (of_five c.args.word.now 115 119 101 101 112 c.in-115.len_at_least c.in-115.len_below (assumption) (assumption) (assumption) (assumption) (assumption)))

-- split
pub returns-in-115-2 : goal.returns-in-115-2
returns-in-115-2 c = sym (ap name_of (of_five c.args.word.now 115 112 108 105 116 c.in-115-2.len_at_least c.in-115-2.len_below (assumption) (assumption) (assumption) (assumption) (assumption)))

-- plane
pub returns-in-112 : goal.returns-in-112
returns-in-112 c = sym (ap name_of (of_five c.args.word.now 112 108 97 110 101 c.in-112.len_at_least c.in-112.len_below (assumption) (assumption) (assumption) (assumption) (assumption)))

-- count
pub returns-in-99 : goal.returns-in-99
returns-in-99 c = sym (ap name_of (of_five c.args.word.now 99 111 117 110 116 c.in-99.len_at_least c.in-99.len_below (assumption) (assumption) (assumption) (assumption) (assumption)))

-- ringmv
pub returns-in-114 : goal.returns-in-114
returns-in-114 c = sym (ap name_of (of_six c.args.word.now 114 105 110 103 109 118 c.in-114.len_at_least c.in-114.len_below (assumption) (assumption) (assumption) (assumption) (assumption) (assumption)))

-- lamina
pub returns-in-108 : goal.returns-in-108
returns-in-108 c = sym (ap name_of (of_six c.args.word.now 108 97 109 105 110 97 c.in-108.len_at_least c.in-108.len_below (assumption) (assumption) (assumption) (assumption) (assumption) (assumption)))

-- volume
pub returns-in-118 : goal.returns-in-118
returns-in-118 c = sym (ap name_of (of_six c.args.word.now 118 111 108 117 109 101 c.in-118.len_at_least c.in-118.len_below (assumption) (assumption) (assumption) (assumption) (assumption) (assumption)))
