-- what a reader must believe: where the tables begin, the image's numbers, and the plan value that they give
pub mod Offsets
pub mod Image
-- tests 2 and 4
pub mod Header
-- what reading the tables needs
pub mod Room
