-- what a reader must believe: the answers, the state, the calls, their runs
pub mod Answers
pub mod States
pub mod Calls
pub mod Runs
-- what is proved of the calls
pub mod Theorems
-- cases by a test
pub mod ByTest
-- replies; every call by cases
pub mod Replies
pub mod CallCases
-- what the calls do to a state's lists
pub mod FreshState
pub mod NextPosition
pub mod Marks
pub mod Sizes
pub mod Changes
-- the shape of a state: its test, and that the calls keep it
pub mod ShapeParts
pub mod ShapeTest
pub mod KeptByCalls
pub mod ShapeKept
-- what the calls answer and mark, on a plan and a state in shape
pub mod OpenExact
pub mod Exactly
pub mod Accepted
-- entries past the counts are not used; each promise leaves room for one answer
pub mod Agreeing
pub mod Unique
-- what the code needs: indices in range; rows; an edge's two ends; what it answers and leaves
pub mod InRange
pub mod Same
pub mod Handed
pub mod Stepping
pub mod Apart
