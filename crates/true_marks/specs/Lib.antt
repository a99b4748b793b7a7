pub mod TrueMarks
