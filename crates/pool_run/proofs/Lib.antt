mod Trays
